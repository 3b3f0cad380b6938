use Rattle.std.proofs.Common.{arith}
use Rattle.closed_fronts.proofs.Joins.{zero_all}
use Rattle.closed_fronts.proofs.joining.are_zero.Goals as goal

pub returns : goal.returns
returns c = λ is. zero_all c.args.cuts.now c.loop-thread.thread (let past = c.loop-thread-test.false in omega arith) c.loop-thread.invariant
