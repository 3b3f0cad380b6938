use Rattle.std.proofs.Common.{◌<◌, ◌≤◌, arith}
use Rattle.std.proofs.lemmas.Option.{slice_get_within}
use Rattle.lock_graph.proofs.Whole.{held_below}
use Rattle.lock_graph.proofs.classes.Classes.locks.Goals as goal

pub returns-clause-below : goal.returns-clause-below
returns-clause-below c =
    let graph = c.args.self.now in
    held_below graph.trace.events graph.classes c.loop-class.below c.len-class-end.ensures.classes (λ n d at.
    let within = slice_get_within graph.classes n d at in
    let size = c.len-class-end.ensures.value in
    let past = c.loop-class-test.false in
    c.loop-class.invariant.each n d (omega arith) at)
