use Rattle.std.proofs.Common.{◌≡◌, ◌+◌, ◌<◌, List, ℕ, Some, length, slice_get, slice_set, sym, ap, subst, ◌∙◌, arith}
use Rattle.std.proofs.lemmas.Option.{slice_get-get_or}
use Rattle.trace_laws.specs.Event.{Event}
use Rattle.trace_laws.specs.declared.event.Op.TheVariants.{Acquire}
use Rattle.trace_laws.specs.Trace.{thread_at}
use Rattle.trace_laws.proofs.Places.{op_from_event, thread_from_event}
use Rattle.trace_index.specs.HeldSets.{IsAcquire, IsHeldSet, AreHeldSets}
use Rattle.trace_index.proofs.HeldNumbers.{held_at, sets_stay, sets_known, sets_new}
use Rattle.trace_index.proofs.held_sets.HeldSets.note.Goals as goal

pub returns-in_default : goal.returns-in_default
returns-in_default c =
    let events = c.args.trace.now.events in
    let old = c.args.self.now in
    let op = op_from_event events c.args.place c.event.result c.event.ensures in
    let view = ap (λ (e : Event). e.op) c.event-2.view_is in
    sets_stay events c.args.place old.sets old.firsts.items old.numbers.items c.requires.noted
    (λ acquire. c.in_default.not-Acquire acquire.0 (view ∙ (let is = acquire.1 in let same : c.event.result.op ≡ Acquire acquire.0 = cc in same)))

pub returns-then-number-len : goal.returns-then-number-len
returns-then-number-len c =
    let events = c.args.trace.now.events in
    let place = c.args.place in
    let old = c.args.self.now in
    let t = c.value-thread.result in
    let v = c.index.result.now in
    let number = c.in_ok-number.number in
    let acquire : IsAcquire events place = (c.in-Acquire.field-0, op_from_event events place c.event.result c.event.ensures ∙ ap Some (sym (ap (λ (e : Event). e.op) c.event-2.view_is) ∙ c.in-Acquire.is)) in
    let own : c.event-3.result.thread ≡ t = sym (ap (λ (e : Event). e.thread) c.event-4.view_is) ∙ sym c.value-thread.ensures.value in
    let thread : thread_at events place ≡ Some t = thread_from_event events place c.event-3.result c.event-3.ensures ∙ ap Some own in
    let below = c.value-thread.ensures.below in
    let size = c.requires.holdings.threads in
    let entry : slice_get c.args.holdings.now.held.items t ≡ Some v = slice_get-get_or c.args.holdings.now.held.items t v (omega arith) ∙ ap Some (sym c.index.ensures) in
    let held : IsHeldSet events place c.deref.result.now = subst (IsHeldSet events place) (sym c.deref.ensures.value) (held_at events place t v.items thread (c.requires.holdings.each t v entry)) in
    let count = c.len-2.ensures in
    let known = c.requires.noted.known in
    let less : number < length old.sets = (let test = c.if-number-len.true in omega arith) in
    sets_known events place old.sets old.firsts.items old.numbers.items c.requires.noted c.number.new.self c.deref.result.now number acquire held c.in_ok-number.ensures.number c.in_ok-number.ensures.distinct c.in_ok-number.ensures.kept (c.in_ok-number.ensures.size less)

pub returns : goal.returns
returns c =
    let events = c.args.trace.now.events in
    let place = c.args.place in
    let old = c.args.self.now in
    let t = c.value-thread.result in
    let v = c.index.result.now in
    let number = c.in_ok-number.number in
    let acquire : IsAcquire events place = (c.in-Acquire.field-0, op_from_event events place c.event.result c.event.ensures ∙ ap Some (sym (ap (λ (e : Event). e.op) c.event-2.view_is) ∙ c.in-Acquire.is)) in
    let own : c.event-3.result.thread ≡ t = sym (ap (λ (e : Event). e.thread) c.event-4.view_is) ∙ sym c.value-thread.ensures.value in
    let thread : thread_at events place ≡ Some t = thread_from_event events place c.event-3.result c.event-3.ensures ∙ ap Some own in
    let below = c.value-thread.ensures.below in
    let size = c.requires.holdings.threads in
    let entry : slice_get c.args.holdings.now.held.items t ≡ Some v = slice_get-get_or c.args.holdings.now.held.items t v (omega arith) ∙ ap Some (sym c.index.ensures) in
    let held : IsHeldSet events place c.deref.result.now = subst (IsHeldSet events place) (sym c.deref.ensures.value) (held_at events place t v.items thread (c.requires.holdings.each t v entry)) in
    let count = c.len-2.ensures in
    let known = c.requires.noted.known in
    let next = c.in_ok-number.ensures.next in
    let last : number ≡ length old.sets = (let test = c.if-number-len.false in omega arith) in
    subst (λ (firsts : List ℕ). AreHeldSets events (place + 1) c.number.new.self firsts (slice_set old.numbers.items place number)) (sym c.in-Ok.ensures.items)
    (sets_new events place old.sets old.firsts.items old.numbers.items c.requires.noted c.number.new.self c.deref.result.now number acquire held c.in_ok-number.ensures.number c.in_ok-number.ensures.distinct c.in_ok-number.ensures.kept last (c.in_ok-number.ensures.more last))
