-- What contracts see of a statement whose names have their numbers.
use Rattle.std.specs.Prelude.{ℕ}
use Rattle.script_machine.specs.declared.resolved.Resolved.{Resolved}

-- a resolved statement with the number of its line
pub record ResolvedLine : Type 0 where
  pub line : ℕ
  pub says : Resolved
