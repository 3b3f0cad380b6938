use Rattle.std.proofs.Common.{◌≡◌, Some, length, ap, ◌∙◌, subst, arith, rules}
use Rattle.trace_laws.specs.Event.{Event}
use Rattle.script_machine.specs.Machine.{next_call}
use Rattle.script_machine.specs.Held.{Held, meaning}
use Rattle.script_machine.specs.OfTrace.{NoStepOf}
use Rattle.script_machine.proofs.OfTrace.{none_outside, none_otherwise}
use Rattle.script_machine.proofs.recording.follow.Goals as goal

pub returns-then-value-threads-clause-none : goal.returns-then-value-threads-clause-none
returns-then-value-threads-clause-none c =
    let own : c.value.result ≡ c.args.event.now.thread = c.value.ensures.value ∙ ap (λ (e : Event). e.thread) c.event.view_is in
    let count : c.threads.result ≡ length c.args.run.now.machine.script.bodies = c.threads.ensures.value ∙ ap (λ (m : Held). length m.script.bodies) c.machine-machine.ensures.value in
    none_outside c.args.run.now c.args.event.now c.machine-machine.ensures.run (omega (arith, own, count))

pub returns-then-ne-clause-none : goal.returns-then-ne-clause-none
returns-then-ne-clause-none c =
    let m : Held = c.args.run.now.machine in
    let call : c.next_op.result ≡ next_call m.script (meaning m) c.event.inside.thread = c.next_op.ensures.call ∙ ap (λ (x : Held). next_call x.script (meaning x) c.event.inside.thread) c.machine-machine.ensures.value in
    let other : c.next_op.result ≡ Some c.event.inside.op → ⊥ = search rules in
    subst (λ (e : Event). NoStepOf m.script (meaning m) e) c.event.view_is
    (none_otherwise m.script (meaning m) (record { thread = c.event.inside.thread; op = c.event.inside.op; loc = c.event.inside.loc }) (λ is. other (call ∙ is)))
