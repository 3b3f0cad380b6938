use Rattle.std.proofs.Common.{ℕ, ◌<◌}
use Rattle.script_machine.specs.Machine.{CanStep}
use Rattle.script_machine.specs.Held.{meaning}
use Rattle.script_machine.proofs.machine.Machine.first_ready.Given as goal

abbrev pub invariant-loop-number : goal.invariant-loop-number
invariant-loop-number l = (t : ℕ) → t < l.number → CanStep l.self.script (meaning l.self) t → ⊥
