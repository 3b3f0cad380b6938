use Rattle.trace_index.proofs.Accessing.{all_below}
use Rattle.trace_index.proofs.index.Index.trace.Goals as goal

pub returns-clause-variables : goal.returns-clause-variables
returns-clause-variables c = rw (← c.self.view_is) (all_below c.self.inside.fronts.events c.self.inside.accesses.items c.self.invariant.accesses)

pub returns-clause-locks : goal.returns-clause-locks
returns-clause-locks c = rw (← c.self.view_is) c.self.invariant.locks
