use Rattle.std.proofs.Common.{◌≡◌, length}
use Rattle.race_scan.specs.Listed.{AddsRaces}
use Rattle.race_scan.proofs.Adding.{IsInFirst}
use Rattle.race_scan.proofs.finding.list_groups.Given as goal

abbrev pub invariant-loop-group : goal.invariant-loop-group
invariant-loop-group l = record {
  trace : l.set.trace ≡ l.index;
  size : length l.passed ≡ length l.groups;
  adds : AddsRaces l.index.events (IsInFirst l.index.events l.groups l.group l.var) l.fn.races.items l.races.items;
}
