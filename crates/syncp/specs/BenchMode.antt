-- The mode `bench`, which writes how much is found in a trace that is drawn from a seed.
use Rattle.std.specs.Prelude.{◌≡◌, ℕ, false, List, [], length}
use Rattle.trace_laws.specs.Findings.{Found}
use Rattle.trace_laws.specs.Traces.{History}
use Rattle.std_text.specs.Framing.{Progress}
use Rattle.report.specs.Reports.{report_text}
use Rattle.answers.specs.Benches.{bench_text}
use Rattle.pattern_walk.specs.Listed.{HasMorePatterns}
use Rattle.predictor.specs.Predictions.{ArePredictions, HasFewPatterns}
use Rattle.drawn_trace.specs.Drawn.{drawn_text}
use Rattle.intake.specs.TraceTexts.{history_of, IsStd}
use Rattle.syncp.specs.declared.outcome.Fault.{Fault}
use Rattle.syncp.specs.declared.outcome.Fault.TheVariants.{TooManyPatterns}
use Rattle.syncp.specs.Tasks.{Task}

-- what the text of a drawn trace says, where the text of a seed has so many events
abbrev pub IsDrawn : ℕ → ℕ → Progress → Type 0
IsDrawn seed events p = IsStd (drawn_text seed events) p

-- the trace is the one that this text says
abbrev pub IsDrawnTrace : ℕ → ℕ → History → Type 0
IsDrawnTrace seed events h = (p : Progress) × IsDrawn seed events p × (h ≡ history_of p)

-- the text for the trace of a seed, which has not too many patterns
unfoldable pub IsBench : ℕ → ℕ → ℕ → List ℕ → Type 0
IsBench size seed events text = (p : Progress) × (all : Found) × IsDrawn seed events p × ArePredictions (history_of p) size all × HasFewPatterns p.reading.events size
    × (text ≡ bench_text events all (length (report_text p.reading.events all)))

-- the trace of a seed has not too many patterns
abbrev pub HasFewDrawn : ℕ → ℕ → ℕ → Type 0
HasFewDrawn size seed events = (p : Progress) × IsDrawn seed events p × HasFewPatterns p.reading.events size

-- the trace of a seed has too many patterns
abbrev pub HasManyDrawn : ℕ → ℕ → ℕ → Type 0
HasManyDrawn size seed events = (p : Progress) × IsDrawn seed events p × HasMorePatterns p.reading.events size

-- the trace of a seed is refused with this fault; nothing is read for it
abbrev pub IsRefusedDrawn : ℕ → ℕ → ℕ → Fault → List ℕ → Type 0
IsRefusedDrawn size seed events TooManyPatterns input = (input ≡ []) × HasManyDrawn size seed events
IsRefusedDrawn size seed events f input = ⊥

-- The task of the mode, with deadlock patterns of at most a size, for so many events from a seed. Nothing is read, and the
-- trace that is drawn has not too many patterns.
abbrev pub Bench : ℕ → ℕ → ℕ → Task
Bench size seed events = record {
  reads = false;
  passes = false;
  Accepts = λ input. HasFewDrawn size seed events;
  Gives = λ input text found. (input ≡ []) × IsBench size seed events text × (found ≡ false);
  Cuts = λ input text. ⊥;
  Unfaulted = λ input. ⊥;
  Refuses = λ Ended f input. IsRefusedDrawn size seed events f input;
}
