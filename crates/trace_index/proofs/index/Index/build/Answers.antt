use Rattle.std.proofs.Common.{◌≤◌, length, sym, subst, arith}
use Rattle.sp_base.specs.declared.limits.TheConstants.{MAX_LOCKS}
use Rattle.trace_laws.specs.Traces.{History}
use Rattle.trace_index.specs.Listed.{AreListed}
use Rattle.trace_index.specs.Accessed.{AreAccessLists}
use Rattle.trace_index.specs.Acquired.{IsAcquireOfPair, ArePositions}
use Rattle.trace_index.specs.HeldSets.{AreLocksBelow, AreHeldSets}
use Rattle.trace_index.proofs.Holding.{locks_below}
use Rattle.trace_index.proofs.index.Index.build.Goals as goal

pub invariant_of-result : goal.invariant_of-result
invariant_of-result c =
    let events = c.args.trace.now.events in
    let at = c.loop-place in
    let same = sym c.in_ok-fronts.ensures in
    let size = c.len-place-end.ensures.value in
    let trace = c.len-place-end.ensures.trace in
    let past = c.loop-place-test.false in
    let all : length events ≤ at.place = omega arith in
    record {
      accesses = subst (λ (h : History). AreAccessLists h.events (length h.events) at.accesses.lists.items) same (subst (λ n. AreAccessLists events n at.accesses.lists.items) (omega arith) at.invariant.accesses);
      acquires = subst (λ (h : History). AreListed (IsAcquireOfPair h.events h.threads) (length h.events) at.acquires.lists.items) same (subst (λ n. AreListed (IsAcquireOfPair events c.args.trace.now.threads) n at.acquires.lists.items) (omega arith) at.invariant.acquires);
      positions = subst (λ (h : History). ArePositions h.events h.threads (length h.events) at.acquires.lists.items at.acquires.positions.items) same (subst (λ n. ArePositions events c.args.trace.now.threads n at.acquires.lists.items at.acquires.positions.items) (omega arith) at.invariant.positions);
      held = subst (λ (h : History). AreHeldSets h.events (length h.events) at.held.sets at.held.firsts.items at.held.numbers.items) same (subst (λ n. AreHeldSets events n at.held.sets at.held.firsts.items at.held.numbers.items) (omega arith) at.invariant.held);
      locks = subst (λ (h : History). AreLocksBelow h.events MAX_LOCKS) same (locks_below events at.place at.holdings.held.items all at.invariant.holdings);
    }
