use Rattle.std.proofs.Common.{◌∙◌}
use Rattle.script_machine.proofs.OfTrace.{same_push, first_no_step}
use Rattle.script_machine.proofs.recording.Recording.of.Goals as goal

pub loop-place-preserved : goal.loop-place-preserved
loop-place-preserved c = record {
  script = c.follow.ensures.script ∙ c.loop-place.invariant.script;
  same = same_push c.loop-place.run.events c.follow.new.run.events c.in-Some.field-0 c.args.trace.now.events c.loop-place.place c.event-event.result
      c.loop-place.invariant.same c.event-event.ensures c.in-Some.ensures.events c.in-Some.ensures.same;
}

pub returns-in_default-clause-fault : goal.returns-in_default-clause-fault
returns-in_default-clause-fault c = λ place is.
    first_no_step c.args.script.now c.args.trace.now.events c.loop-place.run c.loop-place.place place c.event-event.result c.loop-place.invariant.script c.follow.ensures.legal
    c.loop-place.invariant.same c.event-event.ensures c.in_default.ensures.none (let told = is in cc)
