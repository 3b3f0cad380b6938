use Rattle.std.proofs.Common.{◌≡◌, ◌+◌, ℕ, length, Some, ap, sym, subst, ◌∙◌, arith}
use Rattle.std.specs.Prelude.{slice_set}
use Rattle.std.proofs.lemmas.Result.{on_ok_weaker}
use Rattle.trace_laws.specs.Event.{Event}
use Rattle.trace_laws.specs.Trace.{thread_at}
use Rattle.trace_laws.proofs.Places.{thread_from_event}
use Rattle.closed_fronts.specs.Rows.{IsRow, row_in}
use Rattle.closed_fronts.proofs.Told.{told_one}
use Rattle.closed_fronts.proofs.Gains.{local_row}
use Rattle.closed_fronts.proofs.Sharing.{row_told}
use Rattle.closed_fronts.proofs.fronts.note_local.Goals as goal

pub push_shared-requires-clause-width : goal.push_shared-requires-clause-width
push_shared-requires-clause-width c =
    let earlier = c.requires.local.source.0.before.earlier in
    let made = c.requires.made in
    let size = (row_told c.args.ties.now.events c.args.ties.now.threads c.args.rows.now c.args.source c.requires.rows (omega arith)).steady.size in
    let few = c.len.ensures.trace.few in
    omega arith

pub push_shared-requires-clause-thread : goal.push_shared-requires-clause-thread
push_shared-requires-clause-thread c =
    let earlier = c.requires.local.source.0.before.earlier in
    let made = c.requires.made in
    let size = (row_told c.args.ties.now.events c.args.ties.now.threads c.args.rows.now c.args.source c.requires.rows (omega arith)).steady.size in
    let thread : c.value.result ≡ c.event-event.result.thread = c.value.ensures.value ∙ ap (λ (e : Event). e.thread) c.event.view_is in
    let less = c.event-event.ensures.thread in
    omega arith

pub returns-clause-rows : goal.returns-clause-rows
returns-clause-rows c =
    let events = c.args.ties.now.events in
    let threads = c.args.ties.now.threads in
    let rows = c.args.rows.now in
    let place = c.args.place in
    let t = c.value.result in
    let row = row_in rows c.args.source in
    let local = c.requires.local in
    let earlier = local.source.0.before.earlier in
    let made = c.requires.made in
    let old = row_told events threads rows c.args.source c.requires.rows (omega arith) in
    let size = old.steady.size in
    let thread : t ≡ c.event-event.result.thread = c.value.ensures.value ∙ ap (λ (e : Event). e.thread) c.event.view_is in
    let own : thread_at events place ≡ Some t = thread_from_event events place c.event-event.result c.event-event.ensures.event ∙ ap Some (sym thread) in
    let less = c.event-event.ensures.thread in
    let new = local_row events c.len.ensures.trace.lawful threads place c.args.source t row own (omega arith) local.source local.unjoined local.writer local.plain old in
    on_ok_weaker c.push_shared.result (λ is. told_one (IsRow events threads) rows c.push_shared.new.self (slice_set row t (length rows + 1)) place is made c.requires.rows (subst (λ (k : ℕ). IsRow events threads place (slice_set row t (k + 1))) (sym made) new)) c.push_shared.ensures
