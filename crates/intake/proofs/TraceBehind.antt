-- A text that a reader takes in one piece.
use Rattle.std.proofs.Common.{◌≡◌, Ok, Err, Result, refl}
use Rattle.trace_laws.specs.Names.{NameLists}
use Rattle.trace_laws.specs.Traces.{History}
use Rattle.std_text.specs.Framing.{Progress, closed}
use Rattle.std_text.specs.Refusal.{Refusal, ◌>>=◌}
use Rattle.std_text.specs.Told.{Told}
use Rattle.intake.specs.declared.fault.IntakeFault.{IntakeFault}
use Rattle.intake.specs.declared.fault.IntakeFault.TheVariants.{Text, Script, Read, OutOfMemory}
use Rattle.intake.specs.Faults.{TellsRefusal}
use Rattle.intake.specs.Reads.{GoesOn, Ends}
use Rattle.intake.specs.TraceTexts.{history_of}

-- a refusal of the piece is one of the whole
pub piece_refused : (read : Result Progress Refusal) (mid : Told) (f : IntakeFault) → GoesOn read mid (Err f) → TellsRefusal (read >>= closed) f
piece_refused read mid (Text f holder) refused = rw refused refl
piece_refused read mid (Script f) refused = refused
piece_refused read mid Read refused = refused
piece_refused read mid OutOfMemory refused = tt

module _ (read : Result Progress Refusal) (mid : Told) (goes : GoesOn read mid (Ok tt)) where
  -- so is a refusal of the end
  pub end_refused : (f : IntakeFault) → ((p : Progress) → mid.read ≡ Ok p → Ends (closed p) (Err f)) → TellsRefusal (read >>= closed) f
  end_refused (Text f holder) ends = rw goes.1 (ends goes.0 goes.2)
  end_refused (Script f) ends = ends goes.0 goes.2
  end_refused Read ends = ends goes.0 goes.2
  end_refused OutOfMemory ends = tt

  -- the trace of the whole
  pub whole_read : (answer : History × NameLists) → ((p : Progress) → mid.read ≡ Ok p → Ends (closed p) (Ok answer)) → (p : Progress) × ((read >>= closed) ≡ Ok p) × (answer.0 ≡ history_of p)
  whole_read answer ends = (let e = ends goes.0 goes.2 in (e.0, rw goes.1 e.1, e.2))
