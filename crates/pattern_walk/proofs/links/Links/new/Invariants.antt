use Rattle.pattern_walk.specs.Linked.{AreLinks}
use Rattle.pattern_walk.proofs.links.Links.new.Given as goal

abbrev pub invariant-loop-class : goal.invariant-loop-class
invariant-loop-class l = AreLinks l.classes.classes l.class l.flags.items
