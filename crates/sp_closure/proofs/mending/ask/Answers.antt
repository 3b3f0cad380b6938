use Rattle.std.proofs.Common.{◌≡◌, Some, sym, ap, subst, ◌∙◌}
use Rattle.std.specs.Prelude.{slice_get}
use Rattle.trace_laws.specs.Event.{Event}
use Rattle.trace_laws.specs.Traces.{History}
use Rattle.trace_laws.specs.Trace.{Acquires}
use Rattle.trace_laws.proofs.Places.{op_from_event, thread_from_event}
use Rattle.sp_closure.proofs.Asking.{section_there, section_release}
use Rattle.sp_closure.proofs.mending.ask.Goals as goal

pub unreachable-requires-in_default-next_section : goal.unreachable-requires-in_default-next_section
unreachable-requires-in_default-next_section g c =
    let events = c.args.index.now.events in
    let a = c.args.acquire in
    let e = c.event-event.result in
    let at : slice_get events a ≡ Some e = subst (λ (h : History). slice_get h.events a ≡ Some e) c.trace.ensures.value c.event-event.ensures in
    let acquires : Acquires events a c.event.inside.thread c.in-Acquire.lock = record {
      thread = thread_from_event events a e at ∙ ap Some (sym (ap (λ (x : Event). x.thread) c.event.view_is));
      op = op_from_event events a e at ∙ ap Some (sym (ap (λ (x : Event). x.op) c.event.view_is) ∙ c.in-Acquire.is);
    } in
    let there = section_there events a c.section_number-number.result c.in-Acquire.lock c.event.inside.thread c.next_section.result acquires c.section_number-number.ensures c.next_section.ensures.section in
    c.in_default-next_section.not-Some there.0 there.1

pub returns-clause-release : goal.returns-clause-release
returns-clause-release g c =
    let events = c.args.index.now.events in
    let a = c.args.acquire in
    let e = c.event-event.result in
    let at : slice_get events a ≡ Some e = subst (λ (h : History). slice_get h.events a ≡ Some e) c.trace.ensures.value c.event-event.ensures in
    let acquires : Acquires events a c.event.inside.thread c.in-Acquire.lock = record {
      thread = thread_from_event events a e at ∙ ap Some (sym (ap (λ (x : Event). x.thread) c.event.view_is));
      op = op_from_event events a e at ∙ ap Some (sym (ap (λ (x : Event). x.op) c.event.view_is) ∙ c.in-Acquire.is);
    } in
    section_release events a c.section_number-number.result c.in-Acquire.lock c.event.inside.thread c.next_section.result acquires c.section_number-number.ensures c.next_section.ensures.section c.in-Some.section c.in-Some.is
