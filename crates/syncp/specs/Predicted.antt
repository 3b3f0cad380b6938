-- What is predicted from a trace that is read.
use Rattle.std.specs.Prelude.{◌≡◌, ℕ, List}
use Rattle.trace_laws.specs.Traces.{History}
use Rattle.trace_laws.specs.Names.{NameLists}
use Rattle.trace_laws.specs.Findings.{Found}
use Rattle.std_text.specs.Framing.{Progress}
use Rattle.predictor.specs.Predictions.{ArePredictions, HasFewPatterns}
use Rattle.intake.specs.TraceTexts.{history_of, IsStd}

-- a trace that the whole input says with its names, which has not too many patterns, and what is predicted from it
abbrev pub IsPredictedFrom : ℕ → List ℕ → (History × NameLists) × Found → Type 0
IsPredictedFrom size input r = (p : Progress) × IsStd input p × (r.0.0 ≡ history_of p) × (r.0.1 ≡ p.reading.names) × ArePredictions r.0.0 size r.1 × HasFewPatterns r.0.0.events size
