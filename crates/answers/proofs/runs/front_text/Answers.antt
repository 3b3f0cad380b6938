use Rattle.std.proofs.Common.{◌++◌, ap, ◌∙◌}
use Rattle.std_text.specs.Writing.{trace_text}
use Rattle.answers.proofs.runs.front_text.Goals as goal

pub returns : goal.returns
returns c =
    let script = c.args.script.now in
    let run = c.args.recording.now in
    let one = c.in_ok-write_recording.ensures.text in
    let two = c.in_ok-write_all.ensures.text in
    let trace = one.1 ∙ ap (λ l. l ++ one.0) c.new-front.ensures ∙ one.2 in
    two.1 ∙ ap (λ l. l ++ two.0) trace ∙ ap (λ l. trace_text script.names run.trace.events ++ l) two.2
