use Rattle.std.proofs.Common.{◌-◌, ◌≤◌, List, length, map}
use Rattle.script_machine.specs.ScriptText.{Numbered, Tables}
use Rattle.script_machine.specs.Resolving.{AreResolved}
use Rattle.script_machine.proofs.ThreadsRead.{WrittenTo}
use Rattle.script_machine.proofs.whole.flat_bodies.Given as goal

abbrev pub invariant-loop-cursor : goal.invariant-loop-cursor
invariant-loop-cursor l = record {
  written : (names : Tables) (S : List Numbered) → AreResolved names S l.steps → WrittenTo names S (map (λ b. b.items) l.bodies.items) l.cursor;
  within : l.cursor ≤ length l.steps;
}

abbrev pub decreases-loop-cursor : goal.decreases-loop-cursor
decreases-loop-cursor l = length l.steps - l.cursor
