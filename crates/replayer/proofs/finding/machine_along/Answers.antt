use Rattle.std.proofs.Common.{◌≡◌, slice_get, slice_index_or, Some, sym, ap, subst, arith}
use Rattle.std.proofs.lemmas.Option.{slice_get-get_or}
use Rattle.std.proofs.lemmas.List.Elements.{Contains-get_or}
use Rattle.std.proofs.lemmas.List.{take_all}
use Rattle.trace_laws.specs.Event.{Event}
use Rattle.script_machine.specs.Machine.{LegalRun}
use Rattle.script_machine.specs.Held.{meaning}
use Rattle.replayer.proofs.KeptSteps.{IsAlong, is_thread, moves_on, at_start}
use Rattle.replayer.proofs.finding.machine_along.Goals as goal

pub event-event-requires : goal.event-event-requires
event-event-requires c =
    let i = c.loop-place.place-index in
    let p = slice_index_or c.args.places.now i 0 in
    let within = c.requires.correct.within p (Contains-get_or c.args.places.now i 0 c.loop-place-test.true) in
    rw c.trace-trace.ensures.value within

pub step-requires : goal.step-requires
step-requires c =
    let i = c.loop-place.place-index in
    let places = c.args.places.now in
    let trace = c.args.recording.now.trace.events in
    let e = c.event-event.result in
    let here : slice_get trace (slice_index_or places i 0) ≡ Some e = rw (← c.trace-trace.ensures.value) c.event-event.ensures in
    let own : e.thread ≡ c.event.inside.thread = ap (λ (x : Event). x.thread) (sym c.event.view_is) in
    let within = is_thread c.args.script.now trace places c.requires.correct i (slice_index_or places i 0) (slice_get-get_or places i 0 c.loop-place-test.true) e here
    (meaning c.loop-place.machine) c.loop-place.invariant.replayed in
    rw c.loop-place.invariant.script_is (rw (← own) within)

pub loop-place-preserved : goal.loop-place-preserved
loop-place-preserved c =
    let i = c.loop-place.place-index in
    let places = c.args.places.now in
    let trace = c.args.recording.now.trace.events in
    let e = c.event-event.result in
    let here : slice_get trace (slice_index_or places i 0) ≡ Some e = rw (← c.trace-trace.ensures.value) c.event-event.ensures in
    let own : e.thread ≡ c.event.inside.thread = ap (λ (x : Event). x.thread) (sym c.event.view_is) in
    moves_on c.args.script.now trace places c.requires.correct i (slice_index_or places i 0) (slice_get-get_or places i 0 c.loop-place-test.true) e here
    c.loop-place.machine c.step.new.self c.event.inside.thread c.step.result own c.loop-place.invariant c.step.ensures.script c.step.ensures.step c.step.ensures.none

pub loop-place-init : goal.loop-place-init
loop-place-init c =
    let recording = c.trace-trace.ensures.recording in
    at_start c.args.script.now c.args.recording.now.trace.events (meaning c.args.recording.now.machine) c.in_ok-machine.machine
    (subst (λ z. LegalRun z c.args.recording.now.trace.events (meaning c.args.recording.now.machine)) c.requires.script recording.legal)
    c.in_ok-machine.ensures.script c.in_ok-machine.ensures.start

pub returns : goal.returns
returns c =
    let past = c.loop-place-test.false in
    let is = subst (λ ps. IsAlong c.args.script.now c.args.recording.now.trace.events ps c.loop-place.machine) (take_all c.loop-place.place-index c.args.places.now (omega arith)) c.loop-place.invariant in
    record { script = is.script_is; replayed = is.replayed }
