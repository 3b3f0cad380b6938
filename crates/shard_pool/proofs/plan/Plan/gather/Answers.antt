use Rattle.std.proofs.Common.{◌≡◌, length, subst, arith}
use Rattle.std.specs.List.{ReversedBelow}
use Rattle.shard_pool.proofs.Dealing.{answers_reversed}
use Rattle.shard_pool.proofs.plan.Plan.gather.Goals as goal

pub returns-clause-answers : goal.returns-clause-answers
returns-clause-answers g c =
    let jobs = c.args.self.now.jobs in
    let before = c.loop-left.answers.items in
    let after = c.reverse.new.self.items in
    let all = c.loop-left.invariant.many in
    let none = c.loop-left-test.false in
    let size = c.loop-left.answers.ok.0 in
    let size_after = c.reverse.new.self.ok.0 in
    let same = c.reverse.ensures.len in
    let many : length before ≡ jobs = omega arith in
    answers_reversed (g.J.Job.answers c.args.self.now.job.now) jobs before after many (omega arith) (subst (ReversedBelow before after) (omega arith) c.reverse.ensures.by_index) c.loop-left.invariant.each
