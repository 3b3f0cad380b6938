use Rattle.std.proofs.Common.{subst}
use Rattle.std.specs.Io.KnownBytes.{Consumes}
use Rattle.syncp.specs.WitnessMode.{Witness}
use Rattle.syncp.proofs.Answering.{completes, done_ended, explained, not_write, read_before}
use Rattle.syncp.proofs.Showing.{witness_not_refused}
use Rattle.syncp.proofs.witness_mode.show.Goals as goal

pub returns-clause-outcome : goal.returns-clause-outcome
returns-clause-outcome g c =
    let read = c.witness_of_source-witness.ensures.read in
    let wrote = c.write_answer.ensures.outcome in
    (read.0, read.1, (read.2.0, (wrote.0, wrote.1, explained (Witness c.args.size c.args.finding) _ read.0 _ _ wrote.0 read.2.1 c.witness_of_source-witness.ensures.ended wrote.2)))

pub returns-clause-ended : goal.returns-clause-ended
returns-clause-ended g c = λ done.
    let wrote = c.write_answer.ensures.outcome in
    done_ended _ _ _ wrote.0 c.witness_of_source-witness.ensures.ended wrote.2 done

pub returns-clause-read : goal.returns-clause-read
returns-clause-read g c = λ is.
    let wrote = c.write_answer.ensures.outcome in
    c.witness_of_source-witness.ensures.cause (read_before _ _ wrote.0 wrote.2 is)

pub returns-clause-write : goal.returns-clause-write
returns-clause-write g c = λ is.
    let read = c.witness_of_source-witness.ensures.read in
    c.write_answer.ensures.write is (not_write (Witness c.args.size c.args.finding) _ read.0 _ read.2.1)

pub returns-clause-complete : goal.returns-clause-complete
returns-clause-complete g c = λ all left std kept_source kept_out.
    let read = c.witness_of_source-witness.ensures.read in
    let wrote = c.write_answer.ensures.outcome in
    let rest = g.S.Source.left c.witness_of_source-witness.new.source in
    let took = subst (λ o. Consumes o rest read.0) left read.1 in
    completes (Witness c.args.size c.args.finding) _ read.0 _ _ wrote.0 read.2.1 wrote.2 (λ f. witness_not_refused f c.args.size c.args.finding rest all read.0 took std)
    (λ is. kept_source (c.witness_of_source-witness.ensures.cause is))
    (λ is. kept_out (c.write_answer.ensures.write is (not_write (Witness c.args.size c.args.finding) _ read.0 _ read.2.1)))
