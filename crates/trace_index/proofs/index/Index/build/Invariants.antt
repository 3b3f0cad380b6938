use Rattle.trace_index.specs.Listed.{AreListed}
use Rattle.trace_index.specs.Accessed.{AreAccessLists}
use Rattle.trace_index.specs.Acquired.{IsAcquireOfPair, ArePositions}
use Rattle.trace_index.specs.HeldSets.{AreHoldings, AreHeldSets}
use Rattle.trace_index.proofs.index.Index.build.Given as goal

abbrev pub invariant-loop-place : goal.invariant-loop-place
invariant-loop-place l = record {
  accesses : AreAccessLists l.trace.events l.place l.accesses.lists.items;
  acquires : AreListed (IsAcquireOfPair l.trace.events l.trace.threads) l.place l.acquires.lists.items;
  positions : ArePositions l.trace.events l.trace.threads l.place l.acquires.lists.items l.acquires.positions.items;
  holdings : AreHoldings l.trace.events l.place l.holdings.held.items;
  held : AreHeldSets l.trace.events l.place l.held.sets l.held.firsts.items l.held.numbers.items;
}
