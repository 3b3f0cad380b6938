use Rattle.std.proofs.Common.{subst}
use Rattle.std.specs.Io.KnownBytes.{Consumes}
use Rattle.syncp.specs.PredictMode.{Predict}
use Rattle.syncp.proofs.Answering.{completes, done_ended, explained, not_write, read_before}
use Rattle.syncp.proofs.Reporting.{trace_not_refused}
use Rattle.syncp.proofs.predict_mode.analyse.Goals as goal

pub returns-clause-outcome : goal.returns-clause-outcome
returns-clause-outcome g c =
    let read = c.report_of_source-report.ensures.read in
    let wrote = c.write_answer.ensures.outcome in
    (read.0, read.1, (read.2.0, (wrote.0, wrote.1, explained (Predict c.args.size) _ read.0 _ _ wrote.0 read.2.1 c.report_of_source-report.ensures.ended wrote.2)))

pub returns-clause-ended : goal.returns-clause-ended
returns-clause-ended g c = λ done.
    let wrote = c.write_answer.ensures.outcome in
    done_ended _ _ _ wrote.0 c.report_of_source-report.ensures.ended wrote.2 done

pub returns-clause-read : goal.returns-clause-read
returns-clause-read g c = λ is.
    let wrote = c.write_answer.ensures.outcome in
    c.report_of_source-report.ensures.cause (read_before _ _ wrote.0 wrote.2 is)

pub returns-clause-write : goal.returns-clause-write
returns-clause-write g c = λ is.
    let read = c.report_of_source-report.ensures.read in
    c.write_answer.ensures.write is (not_write (Predict c.args.size) _ read.0 _ read.2.1)

pub returns-clause-complete : goal.returns-clause-complete
returns-clause-complete g c = λ all left std kept_source kept_out.
    let read = c.report_of_source-report.ensures.read in
    let wrote = c.write_answer.ensures.outcome in
    let rest = g.S.Source.left c.report_of_source-report.new.source in
    let took = subst (λ o. Consumes o rest read.0) left read.1 in
    completes (Predict c.args.size) _ read.0 _ _ wrote.0 read.2.1 wrote.2 (λ f. trace_not_refused f c.args.size rest all read.0 took std)
    (λ is. kept_source (c.report_of_source-report.ensures.cause is))
    (λ is. kept_out (c.write_answer.ensures.write is (not_write (Predict c.args.size) _ read.0 _ read.2.1)))
