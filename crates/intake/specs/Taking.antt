-- How an input is taken piece by piece. Has says of the bytes so far that exactly these are taken, and Refuses which fault they have.
use Rattle.std.specs.Prelude.{◌≤◌, ℕ, List, length, Result, Ok, Err}
use Rattle.sp_base.specs.declared.limits.TheConstants.{MAX_INPUT}
use Rattle.intake.specs.declared.fault.IntakeFault.{IntakeFault}
use Rattle.intake.specs.declared.fault.IntakeFault.TheVariants.{Read}

-- the input is taken up to this piece, within the limit, or refused
abbrev pub GoesOnWith : (List ℕ → Type 0) → (IntakeFault → List ℕ → Type 0) → Result (Unit {0}) IntakeFault → List ℕ → Type 0
GoesOnWith Has Refuses (Ok u) input = Has input × (length input ≤ MAX_INPUT)
GoesOnWith Has Refuses (Err fault) input = Refuses fault input

-- the whole input is taken, or what there was up to a fault of the source, within the limit; or it is refused
abbrev pub HasTaken : (List ℕ → Type 0) → (IntakeFault → List ℕ → Type 0) → Result (Unit {0}) IntakeFault → List ℕ → Type 0
HasTaken Has Refuses (Ok u) input = Has input × (length input ≤ MAX_INPUT)
HasTaken Has Refuses (Err Read) input = Has input × (length input ≤ MAX_INPUT)
HasTaken Has Refuses (Err fault) input = Refuses fault input
