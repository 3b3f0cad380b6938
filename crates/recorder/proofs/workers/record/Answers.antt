use Rattle.std.proofs.Common.{IfOk, subst}
use Rattle.script_machine.specs.Machine.{IsComplete}
use Rattle.script_machine.specs.Held.{meaning}
use Rattle.script_machine.specs.Recorded.{Recorded}
use Rattle.recorder.proofs.workers.record.Goals as goal

pub returns-clause-complete : goal.returns-clause-complete
returns-clause-complete g c =
    subst (λ script. IfOk c.finish.result (λ (r : Recorded). IsComplete script (meaning r.machine))) c.in_ok-manager.ensures.script c.finish.ensures.complete
