use Rattle.std.proofs.Common.{◌≡◌, ◌<◌, ◌≤◌, ℕ, Some, slice_get, slice_index}
use Rattle.std.specs.Prelude.{Contains}
use Rattle.trace_laws.specs.Patterns.{Class}
use Rattle.lock_graph.proofs.ranks.do_fall.Given as goal

abbrev pub invariant-loop-class : goal.invariant-loop-class
invariant-loop-class l = (n : ℕ) (c : Class) (h : ℕ) → n < l.class → slice_get l.classes.classes n ≡ Some c → Contains c.held h → slice_index l.ranks c.lock ≤ slice_index l.ranks h
