use Rattle.std.proofs.Common.{subst}
use Rattle.script_machine.specs.Held.{meaning}
use Rattle.script_machine.specs.Recorded.{Recorded, AreInRange}
use Rattle.script_machine.proofs.Named.{legal_in_range}
use Rattle.script_machine.proofs.recording.Recording.trace.Goals as goal

pub returns-clause-operands : goal.returns-clause-operands
returns-clause-operands c =
    let m = c.self.inside.machine in
    subst (λ (r : Recorded). AreInRange r.machine.script r.trace.events) c.self.view_is
    (legal_in_range m.script c.self.inside.trace.events (meaning m) c.self.invariant.script.formed c.self.invariant.legal)
