use Rattle.std.proofs.Common.{◌↔◌, IsTrue, subst}
use Rattle.script_machine.specs.Machine.{IsComplete}
use Rattle.script_machine.specs.Held.{meaning}
use Rattle.script_machine.proofs.Runs.{complete_from, incomplete_from, some_or, from_none}
use Rattle.script_machine.proofs.recording.Recording.complete.Goals as goal

pub returns : goal.returns
returns c = subst (λ r. IsTrue c.is_none.result ↔ IsComplete r.machine.script (meaning r.machine)) c.self.view_is
    (let m = c.self.inside.machine in (
      λ e. complete_from m.script c.self.inside.trace.events (meaning m) c.self.invariant.legal (from_none c.first_ready.result c.is_none.result _ c.is_none.ensures e c.first_ready.ensures.none),
      λ complete. some_or c.first_ready.result c.is_none.result _ c.is_none.ensures c.first_ready.ensures.some (λ t can. incomplete_from m.script (meaning m) t can.1 complete),
    ))
