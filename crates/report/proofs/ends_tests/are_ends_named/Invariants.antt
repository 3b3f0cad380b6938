use Rattle.std.proofs.Common.{ℕ, ◌<◌, IfSome}
use Rattle.std_text.specs.Writing.{IsOperandNamed}
use Rattle.script_machine.specs.Held.{meaning}
use Rattle.script_machine.specs.Machine.{next_call}
use Rattle.report.proofs.ends_tests.are_ends_named.Given as goal

-- the next calls of the threads so far are named
abbrev pub invariant-loop-number : goal.invariant-loop-number
invariant-loop-number l = (t : ℕ) → t < l.number → IfSome (next_call l.machine.script (meaning l.machine) t) (IsOperandNamed l.names)
