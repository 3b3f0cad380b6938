use Rattle.std.proofs.Common.{ℕ, ◌≡◌, ◌<◌, Some, false}
use Rattle.std.specs.Prelude.{slice_get}
use Rattle.stamp_pool.proofs.region.first_free.Given as goal

abbrev pub invariant-loop-place : goal.invariant-loop-place
invariant-loop-place l = record {
  none : (k : ℕ) → k < l.place → slice_get l.lent k ≡ Some false → ⊥;
}
