use Rattle.std.proofs.Common.{[], ◌≡◌, ◌<◌, ◌≤◌}
use Rattle.race_scan.specs.Listed.{AddsRaces}
use Rattle.race_scan.specs.Scans.{IsInRange}
use Rattle.race_scan.proofs.finding.list_all.Given as goal

abbrev pub invariant-loop-number : goal.invariant-loop-number
invariant-loop-number l = record {
  trace : l.set.trace ≡ l.index;
  least : l.from ≤ l.number;
  upto : l.from < l.number → l.number ≤ l.number-end;
  adds : AddsRaces l.index.events (IsInRange l.index.events l.from l.number) [] l.races.items;
}
