-- Faults of reading, as the program's.
use Rattle.std.proofs.Common.{◌≡◌, ℕ, List, refl}
use Rattle.intake.specs.declared.fault.IntakeFault.{IntakeFault}
use Rattle.intake.specs.declared.fault.IntakeFault.TheVariants as intake
use Rattle.intake.specs.Faults.{FailsToReadScript}
use Rattle.syncp.specs.declared.outcome.Fault.TheVariants.{Read}
use Rattle.syncp.specs.Faults.{fault_of}
use Rattle.syncp.specs.Outcome.{FailsToRead}
use Rattle.syncp.specs.RecordMode.{Record}

-- a fault while scripts were read
pub script_not_read : (Ended : Type 0) (f : IntakeFault) (input : List ℕ) → FailsToReadScript Ended f input → FailsToRead Record Ended (fault_of f) input
script_not_read Ended (intake.Text f holder) input fails = fails
script_not_read Ended (intake.Script f) input fails = fails
script_not_read Ended intake.Read input fails = fails
script_not_read Ended intake.OutOfMemory input fails = tt

-- the program's fault of a source is that of reading
pub source_failed : (f : IntakeFault) → fault_of f ≡ Read → f ≡ intake.Read
source_failed (intake.Text f holder) is = cc
source_failed (intake.Script f) is = cc
source_failed intake.Read is = refl
source_failed intake.OutOfMemory is = cc
