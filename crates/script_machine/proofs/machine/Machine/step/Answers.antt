use Rattle.std.proofs.Common.{◌≡◌, Some, refl, sym}
use Rattle.script_machine.specs.Machine.{Can, next_call}
use Rattle.script_machine.specs.Held.{Held, meaning}
use Rattle.script_machine.proofs.TakenLemmas.{step_means, can_from}
use Rattle.script_machine.proofs.machine.Machine.step.Goals as goal

pub returns-in-Some-clause-step : goal.returns-in-Some-clause-step
returns-in-Some-clause-step c =
    let m : Held = c.args.self.now in
    let call : next_call m.script (meaning m) c.args.thread ≡ Some c.in-Some.op = sym c.in-Some.ensures.call in
    let can : Can m.script (meaning m) c.args.thread c.in-Some.op = can_from m.script (meaning m) c.args.thread c.in-Some.op (c.if-not-can_step.ensures.0 refl) call in
    let own = c.take.ensures.event.0 in
    let op = c.take.ensures.event.1 in
    record {
      thread = own;
      brought = c.take.ensures.taken.brought;
      step = step_means m c.take.new.self c.take.result c.take.ensures.taken
          (rw (own, op) call)
          (rw (own, op) can);
    }
