use Rattle.std.proofs.Common.{◌<◌, ◌++◌, length, ap, sym, ◌∙◌, arith}
use Rattle.std.proofs.lemmas.Option.{slice_get-get_or}
use Rattle.std_text.specs.Writing.{event_line}
use Rattle.answers.proofs.KeptLines.{place_more}
use Rattle.answers.proofs.witnesses.event_lines.Goals as goal

pub loop-place-preserved : goal.loop-place-preserved
loop-place-preserved c =
    let names = c.args.names.now in
    let places = c.args.places.now in
    let i = c.loop-place.place-index in
    let within : i < length places = omega (arith, c.loop-place-test.true) in
    let more = place_more names c.args.trace.now.events places i _ c.event-event.result (slice_get-get_or places i _ within) c.event-event.ensures in
    c.in_ok-write_event.ensures.ok ∙ ap (λ l. l ++ event_line names c.event-event.result) c.loop-place.invariant ∙ sym more
