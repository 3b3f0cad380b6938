use Rattle.std.proofs.Common.{arith}
use Rattle.closed_fronts.proofs.Sharing.{alike_all}
use Rattle.closed_fronts.proofs.joining.are_alike.Goals as goal

pub returns : goal.returns
returns c = λ is. alike_all c.args.row.now c.args.cuts.now c.args.thread c.loop-other.other c.requires (let past = c.loop-other-test.false in omega arith) c.loop-other.invariant
