use Rattle.pattern_walk.specs.Orders.{AreHolders}
use Rattle.pattern_walk.proofs.order.holders_of.Given as goal

abbrev pub invariant-loop-class : goal.invariant-loop-class
invariant-loop-class l = AreHolders l.classes.classes l.class l.holders.items
