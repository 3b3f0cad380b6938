use Rattle.std.proofs.Common.{subst}
use Rattle.std.specs.Io.KnownBytes.{Consumes}
use Rattle.syncp.specs.ReplayMode.{Replay}
use Rattle.syncp.proofs.Answering.{completes, done_ended, explained, not_write, read_before}
use Rattle.syncp.proofs.InputReplays.{replay_not_refused}
use Rattle.syncp.proofs.replay_mode.reach.Goals as goal

pub returns-clause-outcome : goal.returns-clause-outcome
returns-clause-outcome g c =
    let read = c.replay_source-replays.ensures.read in
    let wrote = c.write_answer.ensures.outcome in
    (read.0, read.1, (read.2.0, (wrote.0, wrote.1, explained (Replay c.args.size) _ read.0 _ _ wrote.0 read.2.1 c.replay_source-replays.ensures.ended wrote.2)))

pub returns-clause-ended : goal.returns-clause-ended
returns-clause-ended g c = λ done.
    let wrote = c.write_answer.ensures.outcome in
    done_ended _ _ _ wrote.0 c.replay_source-replays.ensures.ended wrote.2 done

pub returns-clause-read : goal.returns-clause-read
returns-clause-read g c = λ is.
    let wrote = c.write_answer.ensures.outcome in
    c.replay_source-replays.ensures.cause (read_before _ _ wrote.0 wrote.2 is)

pub returns-clause-write : goal.returns-clause-write
returns-clause-write g c = λ is.
    let read = c.replay_source-replays.ensures.read in
    c.write_answer.ensures.write is (not_write (Replay c.args.size) _ read.0 _ read.2.1)

pub returns-clause-complete : goal.returns-clause-complete
returns-clause-complete g c = λ all left std kept_source kept_out.
    let read = c.replay_source-replays.ensures.read in
    let wrote = c.write_answer.ensures.outcome in
    let rest = g.S.Source.left c.replay_source-replays.new.source in
    let took = subst (λ o. Consumes o rest read.0) left read.1 in
    completes (Replay c.args.size) _ read.0 _ _ wrote.0 read.2.1 wrote.2 (λ f. replay_not_refused c.exclusive_law.ensures c.of_law.ensures f c.args.size rest all read.0 took std)
    (λ is. kept_source (c.replay_source-replays.ensures.cause is))
    (λ is. kept_out (c.write_answer.ensures.write is (not_write (Replay c.args.size) _ read.0 _ read.2.1)))
