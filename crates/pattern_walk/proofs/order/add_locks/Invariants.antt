use Rattle.std.proofs.Common.{◌≡◌, ℕ, ◌<◌, ◌⊎◌, Some, slice_get}
use Rattle.std.specs.Prelude.{Contains, ◌↔◌}
use Rattle.pattern_walk.proofs.order.add_locks.Given as goal

abbrev pub invariant-loop-lock : goal.invariant-loop-lock
invariant-loop-lock l = (x : ℕ) → Contains l.list.items x ↔ (Contains l.fn.list.items x ⊎ ((j : ℕ) × (j < l.lock-index) × (slice_get l.locks j ≡ Some x)))
