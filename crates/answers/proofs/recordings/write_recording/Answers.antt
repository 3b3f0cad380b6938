use Rattle.std.proofs.Common.{◌≡◌, subst}
use Rattle.sp_base.specs.Moves.{IsWritten}
use Rattle.std_text.specs.Writing.{trace_text}
use Rattle.answers.proofs.GivenNames.{recording_named}
use Rattle.answers.proofs.recordings.write_recording.Goals as goal

pub write_trace-requires : goal.write_trace-requires
write_trace-requires g c =
    let names = c.names.ensures in
    recording_named c.args.script.now c.names.result.now names.threads names.locks names.variables c.args.recording.now c.trace.result.now c.requires c.trace.ensures.operands c.trace.ensures.value

pub returns-clause-text : goal.returns-clause-text
returns-clause-text g c =
    let wrote = c.write_trace.ensures.text in
    let script = c.args.script.now in
    let run = c.args.recording.now in
    let same : trace_text c.names.result.now c.trace.result.now.events ≡ trace_text script.names run.trace.events = λ i. trace_text (c.names.ensures.value i) (c.trace.ensures.value i).events in
    (wrote.0, wrote.1, subst (λ t. IsWritten c.write_trace.result t wrote.0) same wrote.2)
