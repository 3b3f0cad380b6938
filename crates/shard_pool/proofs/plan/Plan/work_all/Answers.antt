use Rattle.std.proofs.Common.{rules, arith}
use Rattle.shard_pool.proofs.Dealing.{shares_result}
use Rattle.shard_pool.proofs.plan.Plan.work_all.Goals as goal

pub returns : goal.returns
returns g c =
    let size = c.in_ok-done.done.ok.0 in
    let len = c.in_ok-done.ensures.len in
    shares_result (g.J.Job.answers c.args.self.now.job.now) c.args.self.now.workers c.args.self.now.jobs c.in_ok-done.done.items c.all_of.result (omega arith)
    (λ worker d less. let done = (c.in_ok-done.ensures.each worker d less).1 in search rules) c.all_of.ensures
