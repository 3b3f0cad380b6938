use Rattle.std.proofs.Common.{◌-◌}
use Rattle.shard_pool.proofs.Dealing.{IsDealt}
use Rattle.shard_pool.proofs.plan.Plan.work.Given as goal

abbrev pub invariant-loop-number : goal.invariant-loop-number
invariant-loop-number g l = IsDealt (g.J.Job.answers l.self.job.now) l.self.workers l.self.jobs l.worker l.number l.share.items

abbrev pub decreases-loop-number : goal.decreases-loop-number
decreases-loop-number g l = l.self.jobs - l.number
