use Rattle.std.proofs.Common.{◌≡◌, length}
use Rattle.pattern_walk.specs.Walks.{FoundBelow}
use Rattle.pattern_walk.proofs.patterns.Patterns.list.Given as goal

abbrev pub invariant-loop-length : goal.invariant-loop-length
invariant-loop-length l = record {
  locks : length l.near.steps.items ≡ length l.walk.order.before.items;
  found : FoundBelow l.walk.classes.now.classes l.length 0 l.found.items;
}
