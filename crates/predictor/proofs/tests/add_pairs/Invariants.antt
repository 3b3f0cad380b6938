use Rattle.trace_laws.specs.Traces.{AreNamedBelow}
use Rattle.predictor.proofs.tests.add_pairs.Given as goal

abbrev pub invariant-loop-n : goal.invariant-loop-n
invariant-loop-n g l = AreNamedBelow l.builder.events 2
