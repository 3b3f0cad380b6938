use Rattle.recorder.specs.Passes.{IsPassOf}
use Rattle.recorder.proofs.workers.Worker.run.Given as goal

abbrev pub invariant-loop : goal.invariant-loop
invariant-loop g l = IsPassOf l.manager l.pass
