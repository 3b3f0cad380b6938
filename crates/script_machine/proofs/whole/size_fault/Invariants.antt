use Rattle.std.proofs.Common.{◌-◌, ◌≤◌, List, length}
use Rattle.sp_base.specs.declared.limits.TheConstants.{MAX_INSTRUCTIONS}
use Rattle.script_machine.specs.ScriptText.{Numbered, Tables}
use Rattle.script_machine.specs.Resolving.{AreResolved}
use Rattle.script_machine.proofs.ThreadsRead.{SizedTo}
use Rattle.script_machine.proofs.whole.size_fault.Given as goal

abbrev pub invariant-loop-cursor : goal.invariant-loop-cursor
invariant-loop-cursor l = record {
  sized : (names : Tables) (S : List Numbered) → AreResolved names S l.steps → SizedTo names S l.size l.cursor;
  few : l.size ≤ MAX_INSTRUCTIONS;
  within : l.cursor ≤ length l.steps;
}

abbrev pub decreases-loop-cursor : goal.decreases-loop-cursor
decreases-loop-cursor l = length l.steps - l.cursor
