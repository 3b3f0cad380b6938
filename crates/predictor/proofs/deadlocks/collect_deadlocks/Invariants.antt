use Rattle.std.proofs.Common.{◌≡◌, map}
use Rattle.pattern_walk.specs.Cycles.{classes_of}
use Rattle.predictor.specs.Parts.{deadlock_found}
use Rattle.predictor.specs.Searches.{AreDeadlocks}
use Rattle.predictor.proofs.deadlocks.collect_deadlocks.Given as goal

abbrev pub invariant-loop-n : goal.invariant-loop-n
invariant-loop-n l = record {
  trace : l.cursor.trace ≡ l.classes.trace;
  deadlocks : AreDeadlocks l.classes.trace (map (classes_of l.classes.classes) l.patterns) l.from l.n (map deadlock_found l.found.items);
}
