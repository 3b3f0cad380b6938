use Rattle.std.proofs.Common.{◌∷◌, ◌++◌, [], ◌∙◌, ap, List, subst, sym}
use Rattle.shard_pool.proofs.Dealing.{IsDealt, dealt_more}
use Rattle.shard_pool.proofs.plan.Plan.work.Goals as goal

pub loop-number-preserved : goal.loop-number-preserved
loop-number-preserved g c =
    let answers = g.J.Job.answers c.args.self.now.job.now in
    let grown = c.push_reserved.ensures.items ∙ ap (λ (xs : List g.row.J-Answer.Denot). xs ++ c.in_ok-answer.field-0 ∷ []) c.reserve.ensures.items in
    subst (IsDealt answers c.args.self.now.workers c.args.self.now.jobs c.args.worker c.next_number-number.result) (sym grown)
    (dealt_more answers c.args.self.now.workers c.args.self.now.jobs c.args.worker c.loop-number.number c.next_number-number.result c.loop-number.share.items c.in_ok-answer.field-0
    c.loop-number-test.true c.next_number-number.ensures.most c.next_number-number.ensures.next c.in_ok-answer.ensures c.loop-number.invariant)
