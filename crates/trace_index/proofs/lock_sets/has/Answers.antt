use Rattle.trace_index.proofs.LockSets.{tells}
use Rattle.trace_index.proofs.lock_sets.has.Goals as goal

pub returns : goal.returns
returns c = tells c.args.set.now c.args.lock c.binary_search.result c.requires c.binary_search.ensures.position c.is_ok.result c.is_ok.ensures.value
