use Rattle.std.proofs.Common.{length, ◌-◌, ℕ, ◌≡◌, ◌<◌, ◌≤◌, Some}
use Rattle.std.specs.Prelude.{slice_get}
use Rattle.race_scan.specs.Passed.{IsOut}
use Rattle.race_scan.proofs.passing.pass.Given as goal

abbrev pub invariant-loop-position : goal.invariant-loop-position
invariant-loop-position l = record {
  from : l.start ≤ l.position;
  passed : (k e : ℕ) → l.start ≤ k → k < l.position → slice_get l.places k ≡ Some e → IsOut l.index.events l.later e;
}

abbrev pub decreases-loop-position : goal.decreases-loop-position
decreases-loop-position l = length l.places - l.position
