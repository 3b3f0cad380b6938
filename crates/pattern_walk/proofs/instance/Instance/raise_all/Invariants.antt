use Rattle.std.proofs.Common.{◌≡◌, ◌+◌, take}
use Rattle.trace_laws.specs.Closed.{IsClosureBefore}
use Rattle.sp_closure.specs.Members.{has, IsAtMostSections}
use Rattle.pattern_walk.proofs.instance.Instance.raise_all.Given as goal

abbrev pub invariant-loop-pick : goal.invariant-loop-pick
invariant-loop-pick g l = record {
  trace : l.cursor.trace ≡ l.fn.cursor.trace;
  closure : IsClosureBefore l.fn.cursor.trace.events (take l.pick-index l.self.picks.items) (has l.cursor.members);
  few : IsAtMostSections l.fn.cursor.trace.events l.cursor.asked;
  steps : l.steps ≡ l.fn.steps + l.cursor.asked + l.pick-index;
}
