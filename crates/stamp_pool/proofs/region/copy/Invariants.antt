use Rattle.std.proofs.Common.{ℕ, ◌≡◌, ◌+◌, ◌<◌, length, slice_index}
use Rattle.stamp_pool.proofs.region.copy.Given as goal

abbrev pub invariant-loop-i : goal.invariant-loop-i
invariant-loop-i l = record {
  size : length l.row ≡ length l.fn.row;
  each : (i : ℕ) → i < l.i → slice_index l.row i ≡ slice_index l.region (l.start + i);
}
