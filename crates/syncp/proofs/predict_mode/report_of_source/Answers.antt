use Rattle.syncp.proofs.Reporting.{output}
use Rattle.syncp.proofs.predict_mode.report_of_source.Goals as goal

pub returns-in-Ok-clause-read : goal.returns-in-Ok-clause-read
returns-in-Ok-clause-read g c =
    let read = c.in_ok-trace.ensures.read in
    let trace = c.in_ok-trace.trace in
    let names = c.in_ok-trace._names in
    let found = c.in_ok-trace.findings in
    (read.0, read.1, (read.2.0, output c.args.size read.0 ((trace, names), found) c.in-Ok.report c.len.result read.2.1 c.in-Ok.ensures c.len.ensures))
