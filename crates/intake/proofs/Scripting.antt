-- Faults of scripts.
use Rattle.std.proofs.Common.{◌≡◌, ℕ, ◌≤◌, List, length}
use Rattle.sp_base.specs.declared.limits.TheConstants.{MAX_INPUT}
use Rattle.intake.specs.declared.fault.IntakeFault.{IntakeFault}
use Rattle.intake.specs.declared.fault.IntakeFault.TheVariants.{Text, Script, Read, OutOfMemory}
use Rattle.intake.specs.Faults.{FailsToGather, FailsToScript, FailsToReadScript}

-- a fault while a script is gathered
pub gathering_fails : (Ended : Type 0) (f : IntakeFault) (input : List ℕ) → FailsToGather f input → FailsToReadScript Ended f input
gathering_fails Ended (Text f holder) input fails = fails
gathering_fails Ended (Script f) input fails = absurd fails
gathering_fails Ended Read input fails = fails
gathering_fails Ended OutOfMemory input fails = tt

-- a fault of the script, once all is gathered
pub script_fails : (Ended : Type 0) → Ended → (f : IntakeFault) (text : List ℕ) → length text ≤ MAX_INPUT → FailsToScript f text → FailsToReadScript Ended f text
script_fails Ended ended (Text f holder) text few fails = absurd fails
script_fails Ended ended (Script f) text few fails = (few, fails, ended)
script_fails Ended ended Read text few fails = absurd fails
script_fails Ended ended OutOfMemory text few fails = tt

-- it is no fault of the source
pub script_reads : (f : IntakeFault) (text : List ℕ) → FailsToScript f text → f ≡ Read → ⊥
script_reads (Text f holder) text fails is = fails
script_reads (Script f) text fails is = cc
script_reads Read text fails is = fails
script_reads OutOfMemory text fails is = cc
