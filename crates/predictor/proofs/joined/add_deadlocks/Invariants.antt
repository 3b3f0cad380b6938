use Rattle.std.proofs.Common.{◌≡◌, ◌++◌, map}
use Rattle.predictor.specs.Parts.{deadlock_found}
use Rattle.predictor.proofs.joined.add_deadlocks.Given as goal

abbrev pub invariant-loop-deadlock : goal.invariant-loop-deadlock
invariant-loop-deadlock l = record {
  races : l.found.races ≡ l.fn.found.races;
  deadlocks : l.found.deadlocks ≡ l.fn.found.deadlocks ++ map deadlock_found l.yielded;
}
