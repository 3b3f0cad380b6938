-- How far a source was taken.
use Rattle.std.proofs.Common.{◌≡◌, ℕ, ◌+◌, ◌≤◌, List, [], ◌++◌, length, Err, refl, arith, length-append}
use Rattle.std.specs.declared.option.Option.{Option}
use Rattle.std.specs.Io.KnownBytes.{Consumes}
use Rattle.std.proofs.KnownBytes.{Consumes-trans, Consumes-nil}
use Rattle.sp_base.specs.declared.limits.TheConstants.{MAX_INPUT}
use Rattle.intake.specs.declared.fault.IntakeFault.{IntakeFault}
use Rattle.intake.specs.declared.fault.IntakeFault.TheVariants.{Text, Script, Read, OutOfMemory}
use Rattle.intake.specs.Lengths.{IsWithinLimit}
use Rattle.intake.specs.Taking.{HasTaken}

-- what the source gave so far was taken, which is so many bytes
pub record Came (Has : List ℕ → Type 0) (old now : Option (List ℕ)) (before mid taken : ℕ) : Type 0 where
  pub input : List ℕ
  pub consumes : Consumes old now input
  pub has : Has input
  pub few : length input ≤ MAX_INPUT
  pub count : taken ≡ length input
  pub later : before ≤ mid

-- before the first byte
pub began : (Has : List ℕ → Type 0) (old : Option (List ℕ)) (n : ℕ) → Has [] → Came Has old old n n 0
began Has old n has = record {
  input = [];
  consumes = Consumes-nil old;
  has = has;
  few = omega arith;
  count = refl;
  later = omega arith;
}

-- ---- one piece more

module _ (Has : List ℕ → Type 0) (old now new : Option (List ℕ)) (before mid taken : ℕ) (c : Came Has old now before mid taken) (piece : List ℕ) (gave : Consumes now new piece) where
  -- the bytes with the new ones
  pub grown : Consumes old new (c.input ++ piece)
  grown = Consumes-trans old now new c.input piece c.consumes gave

  -- they are within the limit and one, where the room was
  pub grown_within : (most : ℕ) → length piece ≤ most → taken + most ≤ MAX_INPUT + 1 → IsWithinLimit (c.input ++ piece)
  grown_within most few room = omega (arith, length-append c.input piece, c.count)

  -- the piece was taken
  pub went_on : (Next : List ℕ → Type 0) (next_mid next_taken : ℕ) → mid ≤ next_mid → next_taken ≡ taken + length piece → Next (c.input ++ piece) × (length (c.input ++ piece) ≤ MAX_INPUT) → Came Next old new before next_mid next_taken
  went_on Next next_mid next_taken le counted has = record {
    input = c.input ++ piece;
    consumes = grown;
    has = has.0;
    few = has.1;
    count = omega (arith, c.count, length-append c.input piece, counted);
    later = omega (arith, c.later, le);
  }

-- a refusal that is no fault of the source
pub refused_by : (Has : List ℕ → Type 0) (Refuses : IntakeFault → List ℕ → Type 0) (f : IntakeFault) (input : List ℕ) → (f ≡ Read → ⊥) → Refuses f input → HasTaken Has Refuses (Err f) input
refused_by Has Refuses (Text f holder) input other refuses = refuses
refused_by Has Refuses (Script f) input other refuses = refuses
refused_by Has Refuses Read input other refuses = absurd (other refl)
refused_by Has Refuses OutOfMemory input other refuses = refuses
