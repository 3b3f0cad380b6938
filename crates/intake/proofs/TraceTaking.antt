-- How far a source was read as a trace.
use Rattle.std.proofs.Common.{◌≡◌, ℕ, List, ◌++◌, [], zero-le, Ok, Err, refl, ◌∙◌, arith, inl, inr, Result}
use Rattle.trace_laws.specs.Names.{NameLists}
use Rattle.trace_laws.specs.Traces.{History}
use Rattle.std_text.specs.Framing.{Progress, start, after, closed}
use Rattle.std_text.specs.Told.{Told}
use Rattle.std_text.proofs.TextPieces.{after_append, after_none, after_fits}
use Rattle.intake.specs.declared.fault.IntakeFault.{IntakeFault}
use Rattle.intake.specs.declared.fault.IntakeFault.TheVariants.{Text, Script, Read, OutOfMemory}
use Rattle.intake.specs.Faults.{TellsRefusal, FailsToReadTrace}
use Rattle.intake.specs.Reads.{HasCome, GoesOn, Ends, IsReadFrom}
use Rattle.intake.specs.Taking.{GoesOnWith, HasTaken}

-- before the first byte
pub come_none : (told : Told) → told.read ≡ Ok start → HasCome told []
come_none told read = (start, after_none start zero-le zero-le, read)

-- one piece more is taken, or the text is refused
pub piece_taken : (old new : Told) (input piece : List ℕ) (r : Result (Unit {0}) IntakeFault) → HasCome old input → ((p : Progress) → old.read ≡ Ok p → GoesOn (after p piece) new r)
    → GoesOnWith (HasCome new) (λ fault text. TellsRefusal (after start text) fault) r (input ++ piece)
piece_taken old new input piece (Ok u) (p, reads, at) goes =
    let step_is : after start (input ++ piece) ≡ after p piece = after_append start input piece ∙ rw reads refl in
    let step = goes p at in
    let whole = step_is ∙ step.1 in
    ((step.0, whole, step.2), omega (arith, after_fits start step.0 (input ++ piece) whole))
piece_taken old new input piece (Err f) (p, reads, at) goes =
    let step_is : after start (input ++ piece) ≡ after p piece = after_append start input piece ∙ rw reads refl in
    rw step_is (goes p at)

-- a fault while the pieces were taken
pub taking_fails : (told : Told) (f : IntakeFault) (input : List ℕ) (Ended : Type 0) → HasTaken (HasCome told) (λ fault text. TellsRefusal (after start text) fault) (Err f) input → FailsToReadTrace Ended f input
taking_fails told (Text f holder) input Ended taken = inl taken
taking_fails told (Script f) input Ended taken = absurd taken
taking_fails told Read input Ended ((p, reads, at), few) = (p, reads)
taking_fails told OutOfMemory input Ended taken = tt

-- the end of the text: it was read whole, or refused
pub read_to_end : (told : Told) (input : List ℕ) (answer : Result (History × NameLists) IntakeFault) (Ended : Type 0) → Ended → HasCome told input → ((p : Progress) → told.read ≡ Ok p → Ends (closed p) answer) → IsReadFrom Ended answer input
read_to_end told input (Ok answer) Ended ended (p, reads, at) ends = let e = ends p at in (e.0, rw reads e.1, e.2, e.3)
read_to_end told input (Err (Text f holder)) Ended ended (p, reads, at) ends = inr (ended, rw reads (ends p at))
read_to_end told input (Err (Script f)) Ended ended (p, reads, at) ends = absurd (ends p at)
read_to_end told input (Err Read) Ended ended (p, reads, at) ends = absurd (ends p at)
read_to_end told input (Err OutOfMemory) Ended ended (p, reads, at) ends = tt
