-- What is predicted from a trace that was read.
use Rattle.std.proofs.Common.{ℕ, List, Ok, subst}
use Rattle.trace_laws.specs.Names.{NameLists}
use Rattle.trace_laws.specs.Traces.{History}
use Rattle.trace_laws.specs.Findings.{Found}
use Rattle.pattern_walk.specs.Listed.{HasMorePatterns}
use Rattle.predictor.specs.Predictions.{ArePredictions, HasFewPatterns}
use Rattle.intake.specs.declared.fault.IntakeFault.{IntakeFault}
use Rattle.intake.specs.declared.fault.IntakeFault.TheVariants as intake
use Rattle.syncp.specs.Faults.{fault_of}
use Rattle.syncp.specs.Outcome.{FailsToRead}
use Rattle.syncp.specs.Predicted.{IsPredictedFrom}
use Rattle.syncp.specs.PredictMode.{Predict}
use Rattle.syncp.specs.Refusals.{IsPastPatterns}
use Rattle.intake.specs.Faults.{FailsToReadTrace}
use Rattle.intake.specs.Reads.{IsReadFrom}

-- the trace, its names and what is predicted from it
pub predicted : (size : ℕ) (Ended : Type 0) (trace : History) (names : NameLists) (found : Found) (input : List ℕ) → IsReadFrom Ended (Ok (trace, names)) input → ArePredictions trace size found → HasFewPatterns trace.events size → IsPredictedFrom size input ((trace, names), found)
predicted size Ended trace names found input is are few = (is.0, is.1, is.2, is.3, are, few)

-- a fault while a trace was read
pub not_read : (size : ℕ) (Ended : Type 0) (f : IntakeFault) (input : List ℕ) → FailsToReadTrace Ended f input → FailsToRead (Predict size) Ended (fault_of f) input
not_read size Ended (intake.Text f holder) input fails = fails
not_read size Ended (intake.Script f) input fails = absurd fails
not_read size Ended intake.Read input fails = fails
not_read size Ended intake.OutOfMemory input fails = fails

-- there are too many patterns
pub too_many : (Ended : Type 0) (size : ℕ) (trace : History) (names : NameLists) (input : List ℕ) → IsReadFrom Ended (Ok (trace, names)) input → HasMorePatterns trace.events size → Ended → IsPastPatterns Ended input size
too_many Ended size trace names input is many ended = (is.0, is.1, subst (λ (h : History). HasMorePatterns h.events size) is.2 many, ended)
