use Rattle.std.proofs.Common.{◌≡◌, ◌<◌, ℕ, length, Some, sym, ap, subst, ◌∙◌, arith}
use Rattle.std.specs.Prelude.{nat_lt, slice_get, slice_index}
use Rattle.std.proofs.lemmas.List.{get_or_read}
use Rattle.trace_laws.specs.Event.{Event}
use Rattle.trace_laws.specs.Traces.{History}
use Rattle.closed_fronts.proofs.Flags.{has_event}
use Rattle.sp_closure.proofs.cursor.Cursor.has.Goals as goal

pub returns : goal.returns
returns c =
    let cuts = c.self.inside.cuts.items in
    let thread : c.value.result ≡ c.event-event.result.thread = c.value.ensures.value ∙ ap (λ (e : Event). e.thread) c.event.view_is in
    let less = c.event-event.ensures.thread in
    let known = ap (λ (h : History). h.threads) c.fronts.ensures in
    let event : slice_get c.self.inside.index.now.events c.args.place ≡ Some c.event-event.result = subst (λ (h : History). slice_get h.events c.args.place ≡ Some c.event-event.result) c.fronts.ensures c.event-event.ensures.event in
    let size = c.self.invariant.steady.size in
    let within : c.value.result < length cuts = omega arith in
    let read : c.index.result.now ≡ slice_index cuts c.event-event.result.thread = get_or_read cuts c.value.result c.index.result.now within c.index.ensures 0 ∙ ap (λ (t : ℕ). slice_index cuts t) thread in
    rw (← c.self.view_is) (ap (λ (n : ℕ). nat_lt c.args.place n) read ∙ sym (has_event c.self.inside.index.now.events cuts c.args.place c.event-event.result event))
