use Rattle.pattern_walk.specs.Orders.{AreBefore}
use Rattle.pattern_walk.proofs.order.before_of.Given as goal

abbrev pub invariant-loop-class : goal.invariant-loop-class
invariant-loop-class l = AreBefore l.classes.classes l.class l.before.items
