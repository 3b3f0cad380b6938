use Rattle.std.proofs.Common.{◌≡◌, ◌<◌, ◌≤◌, ◌-◌, false, length, slice_index}
use Rattle.sp_closure.specs.Members.{has}
use Rattle.pattern_walk.specs.Instances.{AreInSet}
use Rattle.pattern_walk.proofs.gallop.halve.Given as goal

abbrev pub invariant-loop-low : goal.invariant-loop-low
invariant-loop-low l = record {
  from : l.start ≤ l.low;
  order : l.low ≤ l.high;
  within : l.high < length l.acquires;
  passed : AreInSet (has l.cursor.members) l.acquires l.start l.low;
  outside : has l.cursor.members (slice_index l.acquires l.high) ≡ false;
}

abbrev pub decreases-loop-low : goal.decreases-loop-low
decreases-loop-low l = l.high - l.low
