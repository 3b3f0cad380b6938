use Rattle.std.proofs.Common.{◌<◌, ◌++◌, ◌∷◌, [], ℕ, length, length-append, append_assoc, ap, ◌∙◌, subst, arith}
use Rattle.script_machine.specs.Machine.{CanStep, size_of}
use Rattle.script_machine.specs.Held.{Held, meaning}
use Rattle.script_machine.specs.Recorded.{Running}
use Rattle.script_machine.proofs.Runs.{complete_from}
use Rattle.recorder.proofs.Grants.{steps}
use Rattle.recorder.proofs.steps.complete.Goals as goal

pub loop-thread-preserved : goal.loop-thread-preserved
loop-thread-preserved c =
    let s : Running = c.loop-thread.state in
    let s' : Running = c.grant.new.self in
    let i = c.loop-thread.invariant in
    let can = subst (λ (m : Held). CanStep m.script (meaning m) c.in-Some.thread) c.machine.ensures.value c.in-Some.ensures.some.1 in
    let made = steps s s' c.in-Some.thread c.grant.result can c.grant.ensures.granted c.grant.ensures.ended.0 c.grant.ensures.blocked.0 in
    record {
      script = made.1.script ∙ i.script;
      events = (i.events.0 ++ made.0 ∷ [], made.1.events ∙ ap (λ xs. xs ++ made.0 ∷ []) i.events.1 ∙ append_assoc c.args.state.now.events i.events.0 (made.0 ∷ []));
    }

pub loop-thread-smaller : goal.loop-thread-smaller
loop-thread-smaller c =
    let s : Running = c.loop-thread.state in
    let s' : Running = c.grant.new.self in
    let can = subst (λ (m : Held). CanStep m.script (meaning m) c.in-Some.thread) c.machine.ensures.value c.in-Some.ensures.some.1 in
    let made = steps s s' c.in-Some.thread c.grant.result can c.grant.ensures.granted c.grant.ensures.ended.0 c.grant.ensures.blocked.0 in
    let script = ap size_of made.1.script in
    let few = made.1.few in
    let longer = ap length made.1.events ∙ length-append s.events (made.0 ∷ []) in
    omega arith

pub returns-clause-complete : goal.returns-clause-complete
returns-clause-complete c =
    let s : Running = c.loop-thread.state in
    let none = subst (λ (m : Held). (t : ℕ) → t < length m.script.bodies → CanStep m.script (meaning m) t → ⊥) c.machine.ensures.value c.in_default.ensures.none in
    complete_from s.machine.script s.events (meaning s.machine) c.machine.ensures.run.legal none
