use Rattle.std.proofs.Common.{◌≡◌, ℕ, ◌<◌, Some, false, slice_get}
use Rattle.sp_closure.specs.Members.{has}
use Rattle.pattern_walk.proofs.instance.Instance.first_inside.Given as goal

abbrev pub invariant-loop-i : goal.invariant-loop-i
invariant-loop-i l = (k a : ℕ) → k < l.i → slice_get l.self.picks.items k ≡ Some a → has l.cursor.members a ≡ false
