use Rattle.std.proofs.Common.{◌≡◌, length}
use Rattle.pattern_walk.specs.Walks.{FoundBelow}
use Rattle.pattern_walk.proofs.walk.Walk.of_size.Given as goal

abbrev pub invariant-loop-start : goal.invariant-loop-start
invariant-loop-start l = record {
  locks : length l.near.steps.items ≡ length l.self.order.before.items;
  found : FoundBelow l.self.classes.now.classes l.size l.start l.found.items;
}
