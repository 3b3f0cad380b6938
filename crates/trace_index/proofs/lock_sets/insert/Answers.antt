use Rattle.trace_index.proofs.LockSets.{put_in}
use Rattle.trace_index.proofs.lock_sets.insert.Goals as goal

pub returns-clause-order : goal.returns-clause-order
returns-clause-order c = (put_in c.args.set.now.items c.deref.result.now c.insert.new.self.items c.args.lock c.in-Err.at c.requires c.deref.ensures.value c.in-Err.ensures.position c.in-Ok.ensures.items).0

pub returns-clause-members : goal.returns-clause-members
returns-clause-members c = (put_in c.args.set.now.items c.deref.result.now c.insert.new.self.items c.args.lock c.in-Err.at c.requires c.deref.ensures.value c.in-Err.ensures.position c.in-Ok.ensures.items).1
