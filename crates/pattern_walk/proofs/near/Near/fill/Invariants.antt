use Rattle.std.proofs.Common.{◌≡◌, length}
use Rattle.pattern_walk.specs.Nearness.{IsNearWithin}
use Rattle.pattern_walk.proofs.near.Near.fill.Given as goal

abbrev pub invariant-loop-step : goal.invariant-loop-step
invariant-loop-step l = record {
  locks : length l.self.steps.items ≡ length l.before;
  size : l.self.size ≡ l.size;
  near : IsNearWithin l.classes.classes l.start l.size l.step l.self.steps.items;
}
