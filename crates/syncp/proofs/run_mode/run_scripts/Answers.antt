use Rattle.std.proofs.Common.{ap, subst, Err, []}
use Rattle.std.specs.Io.KnownBytes.{Consumes}
use Rattle.std.proofs.KnownBytes.{Appends-nil}
use Rattle.syncp.specs.RunMode.{Run}
use Rattle.syncp.proofs.Ran.{nothing_written, reading_completes}
use Rattle.syncp.proofs.ReadWhole.{script_not_refused}
use Rattle.syncp.proofs.WrittenRuns.{run_explains}
use Rattle.syncp.proofs.run_mode.run_scripts.Goals as goal

pub returns-in-Err-clause-complete : goal.returns-in-Err-clause-complete
returns-in-Err-clause-complete g c = λ all left std kept_source kept_out.
    let read = c.in-Err.ensures.read in
    let rest = g.S.Source.left c.run_source.new.source in
    let took = subst (λ o. Consumes o rest read.0) left read.1 in
    let never = script_not_refused c.exclusive_law.ensures c.in-Err.fault rest all read.0 took std in
    reading_completes (Run c.args.size) _ read.0 c.in-Err.fault never read.2.1 (λ is. kept_source (c.in-Err.ensures.cause (ap Err is)))

pub returns-in-Err-clause-outcome : goal.returns-in-Err-clause-outcome
returns-in-Err-clause-outcome g c =
    let read = c.in-Err.ensures.read in
    (read.0, read.1, (read.2.0, ([], Appends-nil _, nothing_written (Run c.args.size) _ c.in-Err.fault read.0 read.2.1)))

pub returns-in-Ok-clause-outcome : goal.returns-in-Ok-clause-outcome
returns-in-Ok-clause-outcome g c =
    let read = c.in-Ok.ensures.read in
    let wrote = c.write_run.ensures.outcome in
    (read.0, read.1, (read.2.0, (wrote.0, wrote.1, run_explains c.args.size _ c.in-Ok.run' c.write_run.result read.0 wrote.0 c.in-Ok.ensures.ended read.2.1 wrote.2)))
