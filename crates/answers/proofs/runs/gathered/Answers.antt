use Rattle.std.proofs.Common.{◌++◌, sym, ap, ◌∙◌, subst}
use Rattle.std_text.specs.Writing.{trace_text}
use Rattle.script_machine.specs.Held.{meaning}
use Rattle.report.specs.EndLines.{AreEndsNamed, ends_text}
use Rattle.report.specs.Reports.{AreWithin, report_text}
use Rattle.answers.specs.Runs.{mark_line}
use Rattle.answers.proofs.EndNames.{ends_named}
use Rattle.answers.proofs.Reporting.{predicted_within}
use Rattle.answers.proofs.WholeRuns.{five_behind}
use Rattle.answers.proofs.runs.gathered.Goals as goal

pub write_report-requires : goal.write_report-requires
write_report-requires c =
    let within = predicted_within c.args.recording.now.trace c.args.findings.now c.requires.predicted in
    subst (λ h. AreWithin h.events c.args.findings.now) (sym c.trace.ensures.value) within

pub write_ends-requires : goal.write_ends-requires
write_ends-requires c =
    let names = c.names.ensures in
    let named = ends_named c.args.script.now c.names.result.now names.threads names.locks names.variables c.args.recording.now c.requires.script c.machine.ensures.recording in
    subst (λ m. AreEndsNamed c.names.result.now m.script (meaning m)) (sym c.machine.ensures.value) named

pub returns : goal.returns
returns c =
    let script = c.args.script.now in
    let run = c.args.recording.now in
    let three = c.in_ok-write_report.ensures.text in
    let four = c.in_ok-write_all.ensures.text in
    let five = c.in_ok-write_ends.ensures.text in
    let report = three.2 ∙ ap (λ h. report_text h.events c.args.findings.now) c.trace.ensures.value in
    let stands = five.2 ∙ (λ i. ends_text (c.names.ensures.value i) (c.machine.ensures.value i).script (meaning (c.machine.ensures.value i)))
    ∙ ap (λ s. ends_text script.names s (meaning run.machine)) c.requires.script in
    five_behind (trace_text script.names run.trace.events) mark_line (report_text run.trace.events c.args.findings.now) c.args.replays.now (ends_text script.names script (meaning run.machine))
    c.in_ok-whole.whole c.write_report.new.sink c.write_all.new.sink c.write_ends.new.sink
    c.in_ok-whole.ensures
    (three.1 ∙ ap (λ l. c.in_ok-whole.whole ++ l) report)
    (four.1 ∙ ap (λ l. c.write_report.new.sink ++ l) (four.2 ∙ c.text.ensures))
    (five.1 ∙ ap (λ l. c.write_all.new.sink ++ l) stands)
