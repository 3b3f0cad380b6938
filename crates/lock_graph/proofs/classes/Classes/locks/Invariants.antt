use Rattle.std.proofs.Common.{◌≡◌, ◌<◌, ◌≤◌, ℕ, Some, slice_get}
use Rattle.sp_base.specs.declared.limits.TheConstants.{MAX_LOCKS}
use Rattle.trace_laws.specs.Patterns.{Class}
use Rattle.lock_graph.proofs.classes.Classes.locks.Given as goal

abbrev pub invariant-loop-class : goal.invariant-loop-class
invariant-loop-class l = record {
  few : l.below ≤ MAX_LOCKS;
  each : (n : ℕ) (c : Class) → n < l.class → slice_get l.self.classes n ≡ Some c → c.lock < l.below;
}
