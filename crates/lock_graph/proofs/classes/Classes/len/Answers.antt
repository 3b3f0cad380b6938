use Rattle.std.proofs.Common.{map}
use Rattle.sp_base.specs.declared.limits.TheConstants.{MAX_LOCKS}
use Rattle.lock_graph.specs.Listing.{class_in}
use Rattle.lock_graph.proofs.Whole.{locks_whole}
use Rattle.lock_graph.proofs.classes.Classes.len.Goals as goal

pub returns-clause-locks : goal.returns-clause-locks
returns-clause-locks c =
    let x = c.self.inside in
    rw (← c.self.view_is) (locks_whole x.index.now.events (map class_in x.entries.items) MAX_LOCKS c.self.invariant.locks c.self.invariant.classes)
