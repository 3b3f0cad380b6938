use Rattle.std.specs.Prelude.{find}
use Rattle.std.proofs.Common.{◌≡◌, ◌-◌, ◌≤◌, length, map, take, drop}
use Rattle.script_machine.specs.ScriptText.{is_new, other_name}
use Rattle.script_machine.specs.Resolving.{resolved_line}
use Rattle.script_machine.specs.Spoken.{numbered}
use Rattle.script_machine.proofs.resolved.resolve.Given as goal

abbrev pub invariant-loop-place : goal.invariant-loop-place
invariant-loop-place l = record {
  resolved : l.resolved.items ≡ map (resolved_line l.fn.tables) (take l.place (map numbered l.statements));
  none : find (λ s. is_new (other_name s.says) l.fn.tables.threads) (map numbered l.statements) ≡ find (λ s. is_new (other_name s.says) l.fn.tables.threads) (drop l.place (map numbered l.statements));
  same : l.tables ≡ l.fn.tables;
  within : l.place ≤ length l.statements;
}

abbrev pub decreases-loop-place : goal.decreases-loop-place
decreases-loop-place l = length l.statements - l.place
