use Rattle.std.proofs.Common.{◌≡◌, ◌-◌, length}
use Rattle.pattern_walk.specs.Walks.{ExtendsTo}
use Rattle.pattern_walk.proofs.walk.Walk.+extend.Given as goal

abbrev pub invariant-loop-next : goal.invariant-loop-next
invariant-loop-next l = record {
  path : l.path.items ≡ l.fn.path.items;
  extends : ExtendsTo l.self.classes.now.classes l.near.size l.fn.path.items l.candidates l.next-index l.fn.found.items l.found.items;
}

abbrev pub decreases-extend : goal.decreases-extend
decreases-extend l = l.near.now.size - length l.path.now.items
