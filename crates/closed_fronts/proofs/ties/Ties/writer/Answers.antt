use Rattle.std.proofs.Common.{◌≡◌, Some, slice_get, sym, ap, subst, ◌∙◌}
use Rattle.trace_laws.specs.Event.{Event}
use Rattle.trace_laws.specs.Traces.{History}
use Rattle.trace_laws.specs.Trace.{Reads}
use Rattle.trace_laws.proofs.Places.{op_from_event}
use Rattle.closed_fronts.proofs.Writing.{writer_tells}
use Rattle.closed_fronts.proofs.ties.Ties.writer.Goals as goal

pub returns-in-Read : goal.returns-in-Read
returns-in-Read c =
    let events = c.self.inside.places.events in
    let x = c.in-Read.field-0 in
    let at = subst (λ (h : History). slice_get h.events c.args.place ≡ Some c.event.result) c.trace.ensures c.event.ensures in
    let reads : Reads events c.args.place x = op_from_event events c.args.place c.event.result at ∙ ap Some (sym (ap (λ (e : Event). e.op) c.event-2.view_is) ∙ c.in-Read.is) in
    rw (← c.self.view_is) (writer_tells events c.args.place x c.writer.result reads (c.writer.ensures x reads))
