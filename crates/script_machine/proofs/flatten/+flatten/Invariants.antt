use Rattle.std.proofs.Common.{◌≡◌, ◌+◌, ◌-◌, ◌*◌, ◌≤◌, List, length, drop, ◌++◌}
use Rattle.sp_base.specs.declared.limits.TheConstants.{MAX_INSTRUCTIONS}
use Rattle.script_machine.specs.ScriptText.{Body, Numbered, Tables, spelling}
use Rattle.script_machine.specs.BodyAt.{IsPart, Ends}
use Rattle.script_machine.specs.Resolving.{AreResolved}
use Rattle.script_machine.proofs.flatten.+flatten.Given as goal

abbrev pub decreases-body : goal.decreases-body
decreases-body l = 4 * (length l.steps.now - l.at) + 3

abbrev pub decreases-piece : goal.decreases-piece
decreases-piece l = 4 * (length l.steps.now - l.at) + 2

abbrev pub decreases-choice : goal.decreases-choice
decreases-choice l = 4 * (length l.steps.now - l.at) + 1

abbrev pub decreases-repeated : goal.decreases-repeated
decreases-repeated l = 4 * (length l.steps.now - l.at) + 1

abbrev pub invariant-body-loop-lines : goal.invariant-body-loop-lines
invariant-body-loop-lines l = record {
  body : (names : Tables) (S : List Numbered) → AreResolved names S l.steps → (b : Body) (behind : List Numbered) → drop l.at S ≡ spelling b ++ behind → Ends behind
      → IsPart names S l.write b behind l.size l.lines.items l.cursor;
  size : l.size ≤ MAX_INSTRUCTIONS + 1;
  onward : l.at ≤ l.cursor;
  within : l.cursor ≤ length l.steps;
}

abbrev pub decreases-body-loop-lines : goal.decreases-body-loop-lines
decreases-body-loop-lines l = length l.steps - l.cursor
