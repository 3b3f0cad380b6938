-- The mode `predict`, which writes the report of a trace.
use Rattle.std.specs.Prelude.{ℕ, Bool, true, false, List}
use Rattle.std_text.specs.Framing.{Progress}
use Rattle.predictor.specs.Predictions.{HasFewPatterns}
use Rattle.answers.specs.Reported.{IsReport}
use Rattle.intake.specs.TraceTexts.{history_of, IsStd, HasNoFault}
use Rattle.syncp.specs.Refusals.{IsRefusedTrace}
use Rattle.syncp.specs.Tasks.{Task}

-- the output for an input
abbrev pub IsOutput : ℕ → List ℕ → List ℕ → Bool → Type 0
IsOutput size input text found = (p : Progress) × IsStd input p × IsReport (history_of p) size text found

-- The task of the mode, with deadlock patterns of at most a size. The input is a trace text, and the trace has not too many
-- patterns.
abbrev pub Predict : ℕ → Task
Predict size = record {
  reads = true;
  passes = false;
  Accepts = λ input. (p : Progress) × IsStd input p × HasFewPatterns p.reading.events size;
  Gives = IsOutput size;
  Cuts = λ input text. ⊥;
  Unfaulted = HasNoFault;
  Refuses = IsRefusedTrace size;
}
