use Rattle.std.proofs.Common.{◌≡◌, ◌*◌, ◌+◌, ◌≤◌, Some, length, sym, ap, ◌∙◌, arith}
use Rattle.trace_laws.specs.Event.{Event}
use Rattle.trace_laws.specs.Trace.{thread_at}
use Rattle.trace_laws.proofs.Places.{thread_from_event}
use Rattle.closed_fronts.proofs.Filled.{all_zero}
use Rattle.closed_fronts.proofs.Told.{some_if}
use Rattle.trace_index.proofs.Stamping.{row_there, stamp_filled}
use Rattle.trace_index.proofs.stamps.fill.Goals as goal

pub raise_given-requires-3 : goal.raise_given-requires-3
raise_given-requires-3 c =
    let row = c.raise_given-2.new.row in
    let wide : length row ≡ c.args.fronts.now.threads = c.raise_given-2.auto.row ∙ c.raise_given.auto.row ∙ c.fill.ensures.len ∙ c.requires.size in
    some_if (λ q. q * length row + length row ≤ length c.args.stamps.now) c.writer.result (λ q is. row_there c.args.fronts.now.threads c.args.place q (length row) (length c.args.stamps.now) ((c.writer.ensures q).0 is).last.before wide c.requires.stamps.size)

pub returns : goal.returns
returns c =
    let events = c.args.fronts.now.events in
    let threads = c.args.fronts.now.threads in
    let p = c.args.place in
    let zero = c.fill.new.self in
    let thread : c.value-thread.result ≡ c.event.result.thread = c.value-thread.ensures.value ∙ ap (λ (e : Event). e.thread) c.event-2.view_is in
    let less = c.event.ensures.thread in
    let own : thread_at events p ≡ Some c.value-thread.result = thread_from_event events p c.event.result c.event.ensures.event ∙ ap Some (sym thread) in
    stamp_filled events c.threads.ensures.trace.lawful threads p c.value-thread.result c.count.result c.args.stamps.now zero c.raise_given.new.row c.raise_given-2.new.row c.raise_given-3.new.row c.own.result c.joined.result c.writer.result
    c.requires.stamps (c.fill.ensures.len ∙ c.requires.size) (all_zero zero (length c.args.row.now) (c.fill.ensures.after (λ y h. h))) c.own.ensures c.joined.ensures c.writer.ensures c.raise_given.ensures c.raise_given-2.ensures c.raise_given-3.ensures
    own (omega arith) c.count.ensures
