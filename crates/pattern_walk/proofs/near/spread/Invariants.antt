use Rattle.pattern_walk.specs.Nearness.{IsSpreadBelow}
use Rattle.pattern_walk.proofs.near.spread.Given as goal

abbrev pub invariant-loop-lock : goal.invariant-loop-lock
invariant-loop-lock l = IsSpreadBelow l.fn.steps.items l.before l.step l.lock l.steps.items
