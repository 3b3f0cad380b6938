use Rattle.pattern_walk.specs.Nearness.{IsReachedBelow}
use Rattle.pattern_walk.proofs.near.lower.Given as goal

abbrev pub invariant-loop-lock : goal.invariant-loop-lock
invariant-loop-lock l = IsReachedBelow l.fn.steps.items l.locks l.to l.lock-index l.steps.items
