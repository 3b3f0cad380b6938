use Rattle.std.proofs.Common.{sym, subst}
use Rattle.trace_laws.specs.Traces.{AreNamedBelow}
use Rattle.script_machine.specs.Held.{meaning}
use Rattle.script_machine.proofs.Named.{legal_named}
use Rattle.script_machine.proofs.run.Run.finish.Goals as goal

pub finish-requires-clause-named : goal.finish-requires-clause-named
finish-requires-clause-named c =
    subst (AreNamedBelow c.self.inside.builder.events) (sym c.threads-threads.ensures.value)
    (legal_named c.self.inside.machine.script c.self.inside.builder.events (meaning c.self.inside.machine) c.self.invariant.run.script.formed c.self.invariant.run.legal)
