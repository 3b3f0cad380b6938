use Rattle.std.proofs.Common.{◌≡◌, ◌≤◌, length}
use Rattle.predictor.proofs.Scanning.{Scanned}
use Rattle.predictor.proofs.joined.add_races.Given as goal

abbrev pub invariant-loop-slot : goal.invariant-loop-slot
invariant-loop-slot l = record {
  few : length l.found.races ≤ length l.yielded;
  deadlocks : l.found.deadlocks ≡ l.fn.found.deadlocks;
  scanned : Scanned l.trace.events l.trace.threads (length l.yielded) l.found.races;
}
