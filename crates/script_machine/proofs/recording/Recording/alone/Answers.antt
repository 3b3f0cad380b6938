use Rattle.std.proofs.Common.{◌<◌, ℕ, length, sym, ◌∙◌, subst}
use Rattle.script_machine.specs.Machine.{CanStep, IsComplete}
use Rattle.script_machine.specs.Held.{Held, meaning}
use Rattle.script_machine.specs.Lowest.{NoneBelow}
use Rattle.script_machine.proofs.Runs.{complete_from}
use Rattle.script_machine.proofs.LowestRuns.{lowest_next}
use Rattle.script_machine.proofs.recording.Recording.alone.Goals as goal

pub loop-thread-preserved : goal.loop-thread-preserved
loop-thread-preserved c =
    let t = c.in-Some.thread in
    let ready = subst (λ (x : Held). CanStep x.script (meaning x) c.in-Some.thread) c.machine.ensures.value c.in-Some.ensures.some.1 in
    let lowest = subst (λ (x : Held). NoneBelow x.script (meaning x) c.in-Some.thread) c.machine.ensures.value c.in-Some.ensures.lowest in
    record {
      script = c.step.ensures.script ∙ c.loop-thread.invariant.script;
      lowest = lowest_next c.args.script.now c.loop-thread.run c.step.new.self c.in-Some.thread c.step.result c.loop-thread.invariant.script c.loop-thread.invariant.lowest
          ready lowest c.step.ensures.step c.step.ensures.events c.step.ensures.none;
    }

pub returns-clause-complete : goal.returns-clause-complete
returns-clause-complete c =
    let m : Held = c.loop-thread.run.machine in
    let none = subst (λ (x : Held). (t : ℕ) → t < length x.script.bodies → CanStep x.script (meaning x) t → ⊥) c.machine.ensures.value c.in_default.ensures.none in
    subst (λ x. IsComplete c.args.script.now (meaning x)) (sym c.finish.ensures.machine)
    (subst (λ x. IsComplete x (meaning m)) c.loop-thread.invariant.script
    (complete_from m.script c.loop-thread.run.events (meaning m) c.machine.ensures.run.legal none))
