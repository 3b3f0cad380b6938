use Rattle.std.proofs.Common.{◌≡◌, ◌+◌, ℕ, Some, ap, sym, subst, ◌∙◌, arith}
use Rattle.trace_laws.specs.Event.{Event}
use Rattle.trace_laws.proofs.Places.{thread_from_event}
use Rattle.closed_fronts.specs.Tables.{IsLatest, IsOpen}
use Rattle.closed_fronts.proofs.Opens.{heads_next}
use Rattle.closed_fronts.proofs.heads.Heads.note.Goals as goal

pub returns : goal.returns
returns c =
    let events = c.args.places.now.events in
    let t = c.value-thread.result in
    let thread : c.args.event.now.thread ≡ t = sym (ap (λ (e : Event). e.thread) c.event.view_is) ∙ sym c.value-thread.ensures.value in
    let less = c.requires.thread in
    let size = c.requires.noted.size in
    heads_next events c.args.places.now.threads t c.args.place c.args.self.now.places.items c.settle.result
    (thread_from_event events c.args.place c.args.event.now c.requires.event ∙ ap Some thread) (omega arith) c.requires.noted
    (subst (λ (u : ℕ). IsLatest (IsOpen events u (c.args.place + 1)) c.settle.result) c.from.ensures c.settle.ensures)
