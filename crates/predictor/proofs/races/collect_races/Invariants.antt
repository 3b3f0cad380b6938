use Rattle.std.proofs.Common.{◌≡◌, ◌-◌, length, map}
use Rattle.predictor.specs.Parts.{race_found}
use Rattle.predictor.proofs.Collecting.{Collected, scan_at}
use Rattle.predictor.proofs.races.collect_races.Given as goal

abbrev pub invariant-loop-found : goal.invariant-loop-found
invariant-loop-found l = record {
  same : l.scan ≡ scan_at l.fn.scan l.scan.passed;
  collected : Collected l.fn.scan l.scan.passed (map race_found l.found.items);
}

abbrev pub decreases-loop-found : goal.decreases-loop-found
decreases-loop-found l = length l.fn.scan.trace.events - l.scan.passed
