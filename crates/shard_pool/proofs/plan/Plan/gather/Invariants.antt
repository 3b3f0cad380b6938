use Rattle.std.proofs.Common.{◌-◌, ◌≡◌, ◌+◌, ◌≤◌, vec_len, vec_capacity}
use Rattle.shard_pool.specs.Shares.{AreAnswers, AreShares}
use Rattle.shard_pool.proofs.plan.Plan.gather.Given as goal

abbrev pub invariant-loop-left : goal.invariant-loop-left
invariant-loop-left g l = record {
  many : vec_len l.answers + l.left ≡ l.self.jobs;
  room : l.self.jobs ≤ vec_capacity l.answers;
  shares : AreShares (g.J.Job.answers l.self.job.now) l.self.workers l.left l.shares.items;
  each : AreAnswers (λ k. g.J.Job.answers l.self.job.now (l.self.jobs - 1 - k)) l.answers.items;
}

abbrev pub decreases-loop-left : goal.decreases-loop-left
decreases-loop-left g l = l.left
