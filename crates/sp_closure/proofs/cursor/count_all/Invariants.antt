use Rattle.std.proofs.Common.{ℕ, ◌≡◌, ◌<◌, length, slice_index}
use Rattle.trace_laws.specs.Findings.{HasCount}
use Rattle.closed_fronts.specs.Rows.{IsBelowCut}
use Rattle.sp_closure.proofs.cursor.count_all.Given as goal

abbrev pub invariant-loop-thread : goal.invariant-loop-thread
invariant-loop-thread l = record {
  size : length l.counts ≡ l.fronts.threads;
  done : (t : ℕ) → t < l.thread → HasCount (IsBelowCut l.fronts.events t (slice_index l.cuts t)) (slice_index l.counts t);
}
