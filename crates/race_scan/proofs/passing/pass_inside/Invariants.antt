use Rattle.std.proofs.Common.{length, ◌-◌, ℕ, ◌≡◌, ◌<◌, ◌≤◌, Some}
use Rattle.std.specs.Prelude.{IsTrue, slice_get}
use Rattle.sp_closure.specs.Members.{has}
use Rattle.race_scan.proofs.passing.pass_inside.Given as goal

abbrev pub invariant-loop-position : goal.invariant-loop-position
invariant-loop-position l = record {
  from : l.start ≤ l.position;
  passed : (k e : ℕ) → l.start ≤ k → k < l.position → slice_get l.places k ≡ Some e → IsTrue (has l.set.members e);
}

abbrev pub decreases-loop-position : goal.decreases-loop-position
decreases-loop-position l = length l.places - l.position
