use Rattle.std.proofs.Common.{◌≡◌, Some, slice_get, sym, ap, ◌∙◌, arith}
use Rattle.std.proofs.lemmas.Option.{slice_get-get_or}
use Rattle.trace_laws.specs.Event.{Event}
use Rattle.trace_laws.specs.declared.event.Op.TheVariants.{Acquire, Release}
use Rattle.trace_laws.proofs.Places.{op_from_event, thread_from_event}
use Rattle.closed_fronts.proofs.Releasing.{sections_stay, section_opens, section_is_open, section_ends, releases_from_event}
use Rattle.closed_fronts.proofs.sections.Sections.note.Goals as goal

pub returns-in-Acquire : goal.returns-in-Acquire
returns-in-Acquire c =
    let events = c.args.trace.now.events in
    let place = c.args.place in
    let l = c.value.result in
    let own = c.value.ensures.value in
    let below = c.value.ensures.below in
    let size = c.requires.noted.locks in
    section_opens events c.len.ensures.trace.lawful place c.args.self.now.held.items c.args.self.now.releases.items c.requires.noted c.event.result.thread l
    (record {
      thread = thread_from_event events place c.event.result c.event.ensures;
      op = op_from_event events place c.event.result c.event.ensures ∙ ap Some (sym (ap (λ (e : Event). e.op) c.event-2.view_is) ∙ c.in-Acquire.is ∙ ap Acquire (sym own));
    }) (omega arith)

pub returns-in_default : goal.returns-in_default
returns-in_default c =
    let events = c.args.trace.now.events in
    let place = c.args.place in
    let op = op_from_event events place c.event.result c.event.ensures in
    let view = ap (λ (e : Event). e.op) c.event-2.view_is in
    sections_stay events c.len.ensures.trace.lawful place c.args.self.now.held.items c.args.self.now.releases.items c.requires.noted
    (λ l acquires. c.in_default.not-Acquire l (view ∙ (let same : c.event.result.op ≡ Acquire l = cc in same)))
    (λ l releases. c.in_default.not-Release l (view ∙ (let same : c.event.result.op ≡ Release l = cc in same)))

pub index_mut-requires-in-Some : goal.index_mut-requires-in-Some
index_mut-requires-in-Some c =
    let held = c.args.self.now.held.items in
    let l = c.value-lock.result in
    let below = c.value-lock.ensures.below in
    let locks = c.requires.noted.locks in
    let read : slice_get held l ≡ Some c.index-since.result.now = slice_get-get_or held l c.index-since.result.now (omega arith) ∙ ap Some (sym c.index-since.ensures) in
    let since = c.requires.noted.holding l (Some c.in-Some.acquire) (read ∙ ap Some c.in-Some.is) in
    let before = since.holds.before in
    let same = since.since in
    let less = c.requires.place in
    let size = c.requires.noted.places in
    omega arith

pub returns-in-Some : goal.returns-in-Some
returns-in-Some c =
    let held = c.args.self.now.held.items in
    let l = c.value-lock.result in
    let below = c.value-lock.ensures.below in
    let locks = c.requires.noted.locks in
    let read : slice_get held l ≡ Some c.index-since.result.now = slice_get-get_or held l c.index-since.result.now (omega arith) ∙ ap Some (sym c.index-since.ensures) in
    let op = sym (ap (λ (e : Event). e.op) c.event-2.view_is) ∙ c.in-Release.is ∙ ap Release (sym c.value-lock.ensures.value) in
    section_ends c.args.trace.now.events c.len.ensures.trace.lawful c.args.place held c.args.self.now.releases.items c.requires.noted c.event.result.thread l c.in-Some.acquire
    (releases_from_event c.args.trace.now.events c.args.place l c.event.result c.event.ensures op) (read ∙ ap Some c.in-Some.is)

pub returns-in_default-since : goal.returns-in_default-since
returns-in_default-since c =
    let held = c.args.self.now.held.items in
    let l = c.value-lock.result in
    let below = c.value-lock.ensures.below in
    let locks = c.requires.noted.locks in
    let read : slice_get held l ≡ Some c.index-since.result.now = slice_get-get_or held l c.index-since.result.now (omega arith) ∙ ap Some (sym c.index-since.ensures) in
    let op = sym (ap (λ (e : Event). e.op) c.event-2.view_is) ∙ c.in-Release.is ∙ ap Release (sym c.value-lock.ensures.value) in
    absurd (section_is_open c.args.trace.now.events c.len.ensures.trace.lawful c.args.place held c.args.self.now.releases.items c.requires.noted c.event.result.thread l
    (releases_from_event c.args.trace.now.events c.args.place l c.event.result c.event.ensures op) (read ∙ ap Some c.in_default-since.is))
