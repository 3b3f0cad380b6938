use Rattle.std.proofs.Common.{◌+◌, ◌∙◌, ap, subst, Ok, Err}
use Rattle.trace_laws.specs.Traces.{History}
use Rattle.answers.specs.Replays.{ReplaysRun}
use Rattle.syncp.specs.ReplayMode.{Records}
use Rattle.syncp.proofs.InputReplays.{replayed, run_has_many}
use Rattle.syncp.proofs.replay_mode.replays_of.Goals as goal

pub returns-in-Ok : goal.returns-in-Ok
returns-in-Ok g c =
    let script = c.in_ok-script.script in
    let recording = c.in_ok-recording.recording in
    let read = c.in_ok-trace.ensures in
    let records = subst (λ es. Records script es (Ok recording)) (ap (λ (h : History). h.events) read.2) c.in_ok-recording.ensures in
    replayed c.args.size c.args.input.now c.input_parts.result.0.now c.input_parts.result.1.now (c.count_newlines.result + 2) c.requires.few c.input_parts.ensures.scripts c.input_parts.ensures.trace (ap (λ n. n + 2) c.count_newlines.ensures.count)
    script c.in_ok-script.ensures c.names.result.now c.names.ensures.value read.0 read.1 c.locations_do_not_count.ensures recording records c.in-Ok.replays.0 c.in-Ok.replays.1 c.in-Ok.ensures

pub returns-in-Err-TooManyPatterns : goal.returns-in-Err-TooManyPatterns
returns-in-Err-TooManyPatterns g c =
    let script = c.in_ok-script.script in
    let recording = c.in_ok-recording.recording in
    let read = c.in_ok-trace.ensures in
    let records = subst (λ es. Records script es (Ok recording)) (ap (λ (h : History). h.events) read.2) c.in_ok-recording.ensures in
    let many = subst (ReplaysRun c.args.size script recording.trace) (c.in-Err-TooManyPatterns.is ∙ ap Err c.in-Err-TooManyPatterns.field-0-is) c.replays_in.ensures in
    run_has_many c.args.size c.args.input.now c.input_parts.result.0.now c.input_parts.result.1.now (c.count_newlines.result + 2) c.requires.few c.input_parts.ensures.scripts c.input_parts.ensures.trace (ap (λ n. n + 2) c.count_newlines.ensures.count)
    script c.in_ok-script.ensures c.names.result.now c.names.ensures.value read.0 read.1 c.locations_do_not_count.ensures recording records many
