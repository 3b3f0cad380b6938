use Rattle.std.proofs.Common.{◌≡◌, ◌+◌, ◌≤◌, length}
use Rattle.sp_closure.specs.Members.{IsAtMostSections}
use Rattle.pattern_walk.specs.Instances.{IsUnderway, rest_of, reached_of}
use Rattle.pattern_walk.proofs.checking.settle.Given as goal

abbrev pub invariant-loop-i : goal.invariant-loop-i
invariant-loop-i g l = record {
  trace : l.cursor.trace ≡ l.fn.cursor.trace;
  underway : IsUnderway l.classes l.pattern l.instance.positions.items l.instance.picks.items l.cursor;
  few : IsAtMostSections l.cursor.trace.events l.cursor.asked;
  counted : l.fn.steps + l.cursor.asked ≤ l.steps + l.fn.cursor.asked;
  steps : l.steps + l.fn.cursor.asked + reached_of l.fn.instance.positions.items ≤ l.fn.steps + l.cursor.asked + reached_of l.instance.positions.items;
}

abbrev pub decreases-loop-i : goal.decreases-loop-i
decreases-loop-i g l = rest_of (length l.classes.trace.events) l.instance.picks.items
