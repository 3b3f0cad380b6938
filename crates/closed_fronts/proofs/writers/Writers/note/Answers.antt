use Rattle.std.proofs.Common.{◌≡◌, Some, slice_get, sym, ap, ◌∙◌, arith}
use Rattle.std.proofs.lemmas.Option.{slice_get-get_or}
use Rattle.trace_laws.specs.Event.{Event}
use Rattle.trace_laws.specs.declared.event.Op.TheVariants.{Read, Write}
use Rattle.trace_laws.specs.Trace.{op_at}
use Rattle.trace_laws.proofs.Places.{op_from_event}
use Rattle.closed_fronts.proofs.Writing.{noted_other, noted_write, noted_read}
use Rattle.closed_fronts.proofs.writers.Writers.note.Goals as goal

pub returns-in-Read : goal.returns-in-Read
returns-in-Read c =
    let events = c.args.trace.now.events in
    let place = c.args.place in
    let last = c.args.self.now.last.items in
    let x = c.value.result in
    let own = c.value.ensures.value in
    let op : op_at events place ≡ Some (Read x) = op_from_event events place c.event.result c.event.ensures ∙ ap Some (sym (ap (λ (e : Event). e.op) c.event-2.view_is) ∙ c.in-Read.is ∙ ap Read (sym own)) in
    let below = c.value.ensures.below in
    let size = c.requires.noted.variables in
    let entry : slice_get last x ≡ Some c.index.result.now = slice_get-get_or last x c.index.result.now (omega arith) ∙ ap Some (sym c.index.ensures) in
    let places = c.requires.noted.places in
    let less = c.requires.place in
    noted_read events place last c.args.self.now.writers.items c.requires.noted x c.index.result.now op entry (omega arith)

pub returns-in-Write : goal.returns-in-Write
returns-in-Write c =
    let events = c.args.trace.now.events in
    let place = c.args.place in
    let x = c.value-in-Write.result in
    let own = c.value-in-Write.ensures.value in
    let op : op_at events place ≡ Some (Write x) = op_from_event events place c.event.result c.event.ensures ∙ ap Some (sym (ap (λ (e : Event). e.op) c.event-2.view_is) ∙ c.in-Write.is ∙ ap Write (sym own)) in
    let below = c.value-in-Write.ensures.below in
    let size = c.requires.noted.variables in
    noted_write events place c.args.self.now.last.items c.args.self.now.writers.items c.requires.noted x op (omega arith)

pub returns-in_default : goal.returns-in_default
returns-in_default c =
    let events = c.args.trace.now.events in
    let place = c.args.place in
    let op = op_from_event events place c.event.result c.event.ensures in
    let view = ap (λ (e : Event). e.op) c.event-2.view_is in
    noted_other events place c.args.self.now.last.items c.args.self.now.writers.items c.requires.noted
    (λ x writes. c.in_default.not-Write x (view ∙ (let same : c.event.result.op ≡ Write x = cc in same)))
    (λ x reads. c.in_default.not-Read x (view ∙ (let same : c.event.result.op ≡ Read x = cc in same)))
