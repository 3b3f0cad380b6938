use Rattle.std.proofs.Common.{◌≤◌, ◌-◌, length}
use Rattle.sp_closure.specs.Members.{has}
use Rattle.pattern_walk.specs.Instances.{AreInSet}
use Rattle.pattern_walk.proofs.gallop.first_outside.Given as goal

abbrev pub invariant-loop-low : goal.invariant-loop-low
invariant-loop-low l = record {
  from : l.from ≤ l.low;
  passed : AreInSet (has l.cursor.members) l.acquires l.from l.low;
}

abbrev pub decreases-loop-low : goal.decreases-loop-low
decreases-loop-low l = length l.acquires - l.low
