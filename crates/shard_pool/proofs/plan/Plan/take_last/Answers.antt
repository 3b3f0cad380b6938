use Rattle.std.proofs.Common.{◌≡◌, ◌%◌, length, Some, refl, arith}
use Rattle.std.specs.Prelude.{slice_get}
use Rattle.std.proofs.lemmas.Nat.{mod_below}
use Rattle.std.proofs.lemmas.Option.{slice_get_read}
use Rattle.shard_pool.proofs.Dealing.{last_answer, shares_before}
use Rattle.shard_pool.proofs.plan.Plan.take_last.Goals as goal

pub returns-clause-answer : goal.returns-clause-answer
returns-clause-answer g c =
    let shares = c.args.shares.now.items in
    let workers = c.args.self.now.workers in
    let many = c.requires.shares.many in
    let within = mod_below c.args.number workers c.requires.workers in
    let at : slice_get shares (c.args.number % workers) ≡ Some c.index_mut.result.now = slice_get_read shares (length shares) (c.args.number % workers) c.index_mut.result.now refl (omega arith) c.index_mut.ensures.value in
    last_answer (g.J.Job.answers c.args.self.now.job.now) workers c.args.number shares c.requires.shares c.requires.workers c.index_mut.result.now c.pop.new.self.items c.in-Some.answer at c.in-Some.ensures.items

pub returns-clause-shares : goal.returns-clause-shares
returns-clause-shares g c =
    let shares = c.args.shares.now.items in
    let workers = c.args.self.now.workers in
    let many = c.requires.shares.many in
    let within = mod_below c.args.number workers c.requires.workers in
    let at : slice_get shares (c.args.number % workers) ≡ Some c.index_mut.result.now = slice_get_read shares (length shares) (c.args.number % workers) c.index_mut.result.now refl (omega arith) c.index_mut.ensures.value in
    shares_before (g.J.Job.answers c.args.self.now.job.now) workers c.args.number shares c.requires.shares c.requires.workers c.index_mut.result.now c.pop.new.self c.in-Some.answer at c.in-Some.ensures.items
