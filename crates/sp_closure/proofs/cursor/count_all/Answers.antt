use Rattle.std.proofs.Common.{arith}
use Rattle.closed_fronts.proofs.Counted.{counts_from}
use Rattle.sp_closure.proofs.cursor.count_all.Goals as goal

pub returns : goal.returns
returns c = counts_from c.args.fronts.now.events c.args.fronts.now.threads c.args.cuts.now c.loop-thread.counts c.loop-thread.invariant.size (λ t less. c.loop-thread.invariant.done t (let past = c.loop-thread-test.false in let end = c.threads-thread-end.ensures.value in omega arith))
