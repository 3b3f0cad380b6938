use Rattle.trace_laws.specs.Traces.{AreNamedBelow}
use Rattle.predictor.proofs.tests.add_writes.Given as goal

abbrev pub invariant-loop-number : goal.invariant-loop-number
invariant-loop-number g l = AreNamedBelow l.builder.events 2

abbrev pub invariant-loop-back : goal.invariant-loop-back
invariant-loop-back g l = AreNamedBelow l.builder.events 2
