-- The mode `witness`, which writes the witness of a finding of a trace.
use Rattle.std.specs.Prelude.{◌≡◌, ℕ, true, false, List}
use Rattle.std_text.specs.Framing.{Progress}
use Rattle.predictor.specs.Predictions.{HasFewPatterns}
use Rattle.answers.specs.Witnesses.{WritesWitness, HasFinding, LacksFinding}
use Rattle.intake.specs.TraceTexts.{history_of, IsStd, HasNoFault}
use Rattle.syncp.specs.declared.outcome.Fault.{Fault}
use Rattle.syncp.specs.declared.outcome.Fault.TheVariants.{NoFinding}
use Rattle.syncp.specs.Refusals.{IsRefusedTrace}
use Rattle.syncp.specs.Tasks.{Task}

-- the text is that of the witness of a finding of the trace that the input says
abbrev pub IsWitness : ℕ → ℕ → List ℕ → List ℕ → Type 0
IsWitness size number input text = (p : Progress) × IsStd input p × WritesWitness p.reading.names (history_of p) size number text

-- the whole input says a trace that has not too many patterns, and fewer findings; Ended says that the source is at its end
abbrev pub IsPastFindings : Type 0 → List ℕ → ℕ → ℕ → Type 0
IsPastFindings Ended input size number = (p : Progress) × IsStd input p × HasFewPatterns p.reading.events size × LacksFinding (history_of p) size number × Ended

-- the input is refused with this fault
abbrev pub IsRefusedWitness : ℕ → ℕ → Type 0 → Fault → List ℕ → Type 0
IsRefusedWitness size number Ended NoFinding input = IsPastFindings Ended input size number
IsRefusedWitness size number Ended f input = IsRefusedTrace size Ended f input

-- The task of the mode, with deadlock patterns of at most a size and the number of a finding. The input is a trace text, and
-- the trace has not too many patterns, and that finding.
abbrev pub Witness : ℕ → ℕ → Task
Witness size number = record {
  reads = true;
  passes = false;
  Accepts = λ input. (p : Progress) × IsStd input p × HasFewPatterns p.reading.events size × HasFinding (history_of p) size number;
  Gives = λ input text found. IsWitness size number input text × (found ≡ true);
  Cuts = λ input text. ⊥;
  Unfaulted = HasNoFault;
  Refuses = IsRefusedWitness size number;
}
