use Rattle.std.proofs.Common.{◌≡◌, Some, slice_get, sym, ap, ◌∙◌, arith}
use Rattle.std.proofs.lemmas.Option.{slice_get-get_or}
use Rattle.trace_laws.specs.Event.{Event}
use Rattle.closed_fronts.proofs.Numbering.{count_within, numbered_next}
use Rattle.closed_fronts.proofs.locals.Locals.note.Goals as goal

pub overflow_add-number : goal.overflow_add-number
overflow_add-number c =
    let t = c.value-thread.result in
    let k = c.index-number.result.now in
    let below = c.value-thread.ensures.below in
    let size = c.requires.noted.threads in
    let read : slice_get c.args.self.now.counts.items t ≡ Some k = slice_get-get_or c.args.self.now.counts.items t k (omega arith) ∙ ap Some (sym c.index-number.ensures) in
    let count = c.requires.noted.counted t k read in
    let within = count_within c.args.trace.now.events t c.args.place in
    let few = c.len.ensures.trace.size in
    omega arith

pub returns : goal.returns
returns c =
    let t = c.value-thread.result in
    let k = c.index-number.result.now in
    let own : c.event.result.thread ≡ t = sym (ap (λ (e : Event). e.thread) c.event-2.view_is) ∙ sym c.value-thread.ensures.value in
    let below = c.value-thread.ensures.below in
    let size = c.requires.noted.threads in
    let read : slice_get c.args.self.now.counts.items t ≡ Some k = slice_get-get_or c.args.self.now.counts.items t k (omega arith) ∙ ap Some (sym c.index-number.ensures) in
    numbered_next c.args.trace.now.events c.args.place t k c.event.result c.args.self.now.counts.items c.args.self.now.numbers.items c.event.ensures own read c.requires.noted
