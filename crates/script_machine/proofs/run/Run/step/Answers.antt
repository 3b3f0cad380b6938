use Rattle.std.proofs.Common.{◌≡◌, ◌<◌, List, [], ◌∷◌, ◌++◌, length, sym, ap, ◌∙◌, subst, arith}
use Rattle.trace_laws.specs.Event.{Event}
use Rattle.script_machine.specs.Machine.{LegalRun, size_of}
use Rattle.script_machine.specs.ScriptBounds.{IsScript}
use Rattle.script_machine.specs.Held.{Held, meaning}
use Rattle.script_machine.proofs.Runs.{legal_push, next_accepted, when_ok}
use Rattle.script_machine.proofs.run.Run.step.Goals as goal

-- the builder takes the event
grown : (c : goal.After-push) → c.push.new.self.events ≡ c.self.inside.builder.events ++ c.in-Some.event ∷ []
grown c =
    let m : Held = c.self.inside.machine in
    let es : List Event = c.self.inside.builder.events in
    let accepted = next_accepted m.script es (meaning m) (meaning c.step.new.self) c.args.thread c.in-Some.event c.self.invariant.run.script c.self.invariant.run.legal c.in-Some.ensures.step in
    let less : length es < c.self.inside.builder.capacity = omega (arith, accepted.0, c.self.invariant.capacity) in
    when_ok c.push.result _ (c.push.ensures.accepts.1 (less, accepted.1)) c.push.ensures.ok

pub invariant_of-self : goal.invariant_of-self
invariant_of-self c =
    let m : Held = c.self.inside.machine in
    let es : List Event = c.self.inside.builder.events in
    let legal = legal_push m.script es (meaning m) (meaning c.step.new.self) c.args.thread c.in-Some.event c.self.invariant.run.legal c.in-Some.ensures.step in
    record {
      run = record {
        script = subst IsScript (sym c.in-Some.ensures.script) c.self.invariant.run.script;
        legal = subst (λ s. LegalRun s c.push.new.self.events (meaning c.step.new.self)) (sym c.in-Some.ensures.script)
            (subst (λ xs. LegalRun m.script xs (meaning c.step.new.self)) (sym (grown c)) legal);
      };
      capacity = c.push.ensures.capacity ∙ c.self.invariant.capacity ∙ ap size_of (sym c.in-Some.ensures.script);
    }

pub returns-in-Some-clause-events : goal.returns-in-Some-clause-events
returns-in-Some-clause-events c = grown c ∙ ap (λ r. r.events ++ c.in-Some.event ∷ []) c.self.view_is
