use Rattle.std.specs.Prelude.{slice_get, Some, is_some}
use Rattle.std.proofs.Common.{◌≡◌, ℕ, ◌<◌, length}
use Rattle.script_machine.specs.ForkTable.{lines_for}
use Rattle.script_machine.proofs.forks.forked_marks.Given as goal

abbrev pub invariant-loop-thread : goal.invariant-loop-thread
invariant-loop-thread l = record {
  count : length l.marks.items ≡ l.thread;
  marks : (t : ℕ) → t < l.thread → slice_get l.marks.items t ≡ Some (is_some (lines_for l.table t).first);
}
