use Rattle.std.proofs.Common.{ℕ, ◌≡◌, ◌+◌, ◌<◌, ◌≤◌, length, slice_index}
use Rattle.stamp_pool.proofs.region.clear.Given as goal

abbrev pub invariant-loop-i : goal.invariant-loop-i
invariant-loop-i l = record {
  size : length l.region ≡ length l.fn.region;
  own : (i : ℕ) → i < l.i → slice_index l.region (l.start + i) ≡ 0;
  before : (k : ℕ) → k < l.start → slice_index l.region k ≡ slice_index l.fn.region k;
  behind : (k : ℕ) → l.start + l.i ≤ k → slice_index l.region k ≡ slice_index l.fn.region k;
}
