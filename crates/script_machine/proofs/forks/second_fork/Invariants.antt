use Rattle.std.specs.Prelude.{find}
use Rattle.std.proofs.Common.{◌≡◌, drop}
use Rattle.script_machine.specs.ForkTable.{is_second}
use Rattle.script_machine.proofs.forks.second_fork.Given as goal

abbrev pub invariant-loop-step : goal.invariant-loop-step
invariant-loop-step l = find (λ s. is_second l.table s.line s.says) l.steps ≡ find (λ s. is_second l.table s.line s.says) (drop l.step-index l.steps)
