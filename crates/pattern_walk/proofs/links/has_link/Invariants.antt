use Rattle.std.proofs.Common.{◌≡◌, ◌≢◌, ℕ, ◌<◌, Some, slice_get, slice_index}
use Rattle.pattern_walk.proofs.links.has_link.Given as goal

abbrev pub invariant-loop-other : goal.invariant-loop-other
invariant-loop-other l = (j h : ℕ) → j < l.other-index → slice_get l.held j ≡ Some h → slice_index l.ranks l.lock ≢ slice_index l.ranks h
