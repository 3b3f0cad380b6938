-- What an index keeps.
use Rattle.std.specs.Prelude.{length}
use Rattle.sp_base.specs.declared.limits.TheConstants.{MAX_LOCKS}
use Rattle.trace_laws.specs.Traces.{History}
use Rattle.trace_index.specs.declared.index.Index.TheInside.{Inside}
use Rattle.trace_index.specs.Listed.{AreListed}
use Rattle.trace_index.specs.Accessed.{AreAccessLists}
use Rattle.trace_index.specs.Acquired.{IsAcquireOfPair, ArePositions}
use Rattle.trace_index.specs.HeldSets.{AreLocksBelow, AreHeldSets}

-- an index is seen as its trace
abbrev pub history_in : Inside → History
history_in x = x.fronts

-- there is an entry for each variable and each acquire, and each entry is right
pub record IsIndexed (x : Inside) : Type 0 where
  pub accesses : AreAccessLists x.fronts.events (length x.fronts.events) x.accesses.items
  pub acquires : AreListed (IsAcquireOfPair x.fronts.events x.fronts.threads) (length x.fronts.events) x.acquires.items
  pub positions : ArePositions x.fronts.events x.fronts.threads (length x.fronts.events) x.acquires.items x.positions.items
  pub held : AreHeldSets x.fronts.events (length x.fronts.events) x.sets x.firsts.items x.held.items
  pub locks : AreLocksBelow x.fronts.events MAX_LOCKS
