use Rattle.std.proofs.Common.{ℕ, ◌≡◌, ◌≢◌, ◌<◌, slice_index}
use Rattle.closed_fronts.proofs.joining.are_alike.Given as goal

abbrev pub invariant-loop-other : goal.invariant-loop-other
invariant-loop-other l = (t : ℕ) → t < l.other → t ≢ l.thread → slice_index l.row t ≡ slice_index l.cuts t
