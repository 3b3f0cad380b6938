-- What holds of every script.
use Rattle.std.specs.Prelude.{◌≤◌, length}
use Rattle.sp_base.specs.declared.limits.TheConstants.{MAX_THREADS, MAX_LOCKS, MAX_VARS, MAX_INSTRUCTIONS}
use Rattle.script_machine.specs.Machine.{Script, IsWellFormed, ForksOnce, size_of}

-- the operands are in range, no thread is forked twice, and there are not too many threads, locks, variables and instructions
pub record IsScript (script : Script) : Type 0 where
  pub formed : IsWellFormed script
  pub once : ForksOnce script
  pub threads : length script.bodies ≤ MAX_THREADS
  pub locks : script.locks ≤ MAX_LOCKS
  pub variables : script.variables ≤ MAX_VARS
  pub size : size_of script ≤ MAX_INSTRUCTIONS
