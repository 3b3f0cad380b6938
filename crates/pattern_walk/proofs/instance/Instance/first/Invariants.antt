use Rattle.std.proofs.Common.{◌≡◌, ℕ, Some, length, slice_get}
use Rattle.pattern_walk.specs.Cycles.{class_of}
use Rattle.pattern_walk.specs.Instances.{AreFirstPositions}
use Rattle.pattern_walk.proofs.instance.Instance.first.Given as goal

abbrev pub invariant-loop-class : goal.invariant-loop-class
invariant-loop-class l = record {
  positions : length l.instance.positions.items ≡ l.class-index;
  picks : length l.instance.picks.items ≡ l.class-index;
  first : AreFirstPositions l.instance.positions.items;
  each : (i n p : ℕ) → slice_get l.numbers i ≡ Some n → slice_get l.instance.picks.items i ≡ Some p → slice_get (class_of l.classes.classes n).acquires 0 ≡ Some p;
}
