use Rattle.std.proofs.Common.{◌≡◌, ℕ, ◌<◌, Some, slice_get}
use Rattle.trace_laws.specs.Patterns.{AreApart}
use Rattle.pattern_walk.specs.Cycles.{class_of}
use Rattle.pattern_walk.proofs.walk.is_apart.Given as goal

abbrev pub invariant-loop-class : goal.invariant-loop-class
invariant-loop-class l = (i n : ℕ) → i < l.class-index → slice_get l.path i ≡ Some n → AreApart (class_of l.classes.classes n) (class_of l.classes.classes l.next)
