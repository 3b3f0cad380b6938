use Rattle.std.proofs.Common.{ℕ, ◌≡◌, ◌≤◌, length, Some}
use Rattle.std.specs.Prelude.{slice_get}
use Rattle.race_scan.specs.Passed.{ArePassedFrom}
use Rattle.race_scan.specs.Listed.{AddsRaces}
use Rattle.race_scan.proofs.Adding.{IsOwnBelow}
use Rattle.race_scan.proofs.finding.list_own.Given as goal

abbrev pub invariant-loop-position : goal.invariant-loop-position
invariant-loop-position l = record {
  trace : l.set.trace ≡ l.index;
  size : length l.passed ≡ length l.groups;
  passed : (j p : ℕ) → l.position ≤ j → slice_get l.own j ≡ Some p → ArePassedFrom l.index.events l.op p l.groups l.passed;
  adds : AddsRaces l.index.events (IsOwnBelow l.index.events l.own l.position l.op) l.fn.races.items l.races.items;
}
