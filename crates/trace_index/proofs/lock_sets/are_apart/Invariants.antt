use Rattle.std.proofs.Common.{length, ◌-◌, ◌+◌, ◌≤◌}
use Rattle.trace_index.specs.HeldSets.{IsAbsentBelow}
use Rattle.trace_index.proofs.lock_sets.are_apart.Given as goal

abbrev pub invariant-loop-i : goal.invariant-loop-i
invariant-loop-i l = record {
  left_within : l.i ≤ length l.left;
  right_within : l.j ≤ length l.right;
  left_absent : IsAbsentBelow l.left l.i l.right;
  right_absent : IsAbsentBelow l.right l.j l.left;
}

abbrev pub decreases-loop-i : goal.decreases-loop-i
decreases-loop-i l = (length l.left - l.i) + (length l.right - l.j)
