use Rattle.answers.proofs.Reporting.{predicted_within}
use Rattle.answers.proofs.reports.report_of.Goals as goal

pub write_report-requires : goal.write_report-requires
write_report-requires c = predicted_within c.args.trace.now c.args.findings.now c.requires
