use Rattle.std.proofs.Common.{◌≡◌, Some, slice_get, sym, ap, ◌∙◌, arith}
use Rattle.std.proofs.lemmas.Option.{slice_get-get_or}
use Rattle.trace_laws.specs.Event.{Event}
use Rattle.trace_laws.specs.declared.event.Op.TheVariants.{Acquire, Release}
use Rattle.trace_laws.specs.Trace.{thread_at, Acquires, Releases}
use Rattle.trace_laws.proofs.Places.{op_from_event, thread_from_event}
use Rattle.trace_index.proofs.Holding.{holdings_stay, holdings_acquire, holdings_release}
use Rattle.trace_index.proofs.holdings.Holdings.note.Goals as goal

pub returns-in_ok-insert-in-Acquire : goal.returns-in_ok-insert-in-Acquire
returns-in_ok-insert-in-Acquire c =
    let events = c.args.trace.now.events in
    let place = c.args.place in
    let held = c.args.self.now.held.items in
    let t = c.value-thread.result in
    let l = c.value.result in
    let v = c.index_mut.result.now in
    let below = c.value-thread.ensures.below in
    let size = c.requires.noted.threads in
    let own : c.event.result.thread ≡ t = sym (ap (λ (e : Event). e.thread) c.event-2.view_is) ∙ sym c.value-thread.ensures.value in
    let thread : thread_at events place ≡ Some t = thread_from_event events place c.event.result c.event.ensures ∙ ap Some own in
    let acquires : Acquires events place t l = record { thread = thread; op = op_from_event events place c.event-3.result c.event-3.ensures ∙ ap Some (sym (ap (λ (e : Event). e.op) c.event-4.view_is) ∙ c.in-Acquire.is ∙ ap Acquire (sym c.value.ensures.value)) } in
    let entry : slice_get held t ≡ Some v = slice_get-get_or held t v (omega arith) ∙ ap Some (sym c.index_mut.ensures.value) in
    holdings_acquire events place held c.requires.noted t v c.insert.new.set entry l (omega (arith, c.value.ensures.below)) acquires c.in_ok-insert-in-Acquire.ensures.order c.in_ok-insert-in-Acquire.ensures.members

pub returns-in-Release : goal.returns-in-Release
returns-in-Release c =
    let events = c.args.trace.now.events in
    let place = c.args.place in
    let held = c.args.self.now.held.items in
    let t = c.value-thread.result in
    let l = c.value-in-Release.result in
    let v = c.index_mut-in-Release.result.now in
    let below = c.value-thread.ensures.below in
    let size = c.requires.noted.threads in
    let own : c.event.result.thread ≡ t = sym (ap (λ (e : Event). e.thread) c.event-2.view_is) ∙ sym c.value-thread.ensures.value in
    let thread : thread_at events place ≡ Some t = thread_from_event events place c.event.result c.event.ensures ∙ ap Some own in
    let releases : Releases events place t l = record { thread = thread; op = op_from_event events place c.event-3.result c.event-3.ensures ∙ ap Some (sym (ap (λ (e : Event). e.op) c.event-4.view_is) ∙ c.in-Release.is ∙ ap Release (sym c.value-in-Release.ensures.value)) } in
    let entry : slice_get held t ≡ Some v = slice_get-get_or held t v (omega arith) ∙ ap Some (sym c.index_mut-in-Release.ensures.value) in
    holdings_release events place held c.requires.noted t v c.remove.new.set entry l releases c.remove.ensures.order c.remove.ensures.members

pub returns-in_default : goal.returns-in_default
returns-in_default c =
    let events = c.args.trace.now.events in
    let place = c.args.place in
    let op = op_from_event events place c.event-3.result c.event-3.ensures in
    let view = ap (λ (e : Event). e.op) c.event-4.view_is in
    holdings_stay events place c.args.self.now.held.items c.requires.noted
    (λ l acquires. c.in_default.not-Acquire l (view ∙ (let same : c.event-3.result.op ≡ Acquire l = cc in same)))
    (λ l releases. c.in_default.not-Release l (view ∙ (let same : c.event-3.result.op ≡ Release l = cc in same)))
