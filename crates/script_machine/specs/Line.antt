-- What contracts see of a line of a flattened body.
use Rattle.std.specs.Prelude.{ℕ}
use Rattle.script_machine.specs.declared.instruction.Instruction.{Instruction}

-- an instruction, with the number of the line of its word
pub record Line : Type 0 where
  pub instruction : Instruction
  pub number : ℕ
