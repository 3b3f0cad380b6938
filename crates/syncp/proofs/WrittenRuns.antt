-- What is written of a run of scripts explains how a call ended.
use Rattle.std.proofs.Common.{ℕ, List, inl, inr, sym, subst}
use Rattle.sp_base.specs.Moves.{IsFront}
use Rattle.answers.specs.declared.runs.RunText.{RunText}
use Rattle.answers.specs.declared.runs.RunText.TheVariants.{Whole, Cut}
use Rattle.answers.specs.Runs.{text_in}
use Rattle.syncp.specs.declared.outcome.Fault.{Fault}
use Rattle.syncp.specs.declared.outcome.Fault.TheVariants as fault
use Rattle.syncp.specs.declared.outcome.Outcome.{Outcome}
use Rattle.syncp.specs.Outcome.{Explains, FailsToRead}
use Rattle.syncp.specs.RecordMode.{Record}
use Rattle.syncp.specs.RunMode.{Run, IsRunTextOf, EndsRun, outcome_in}
use Rattle.syncp.specs.Tasks.{IsFrontOf}

-- a fault while scripts were read to be run
pub fails_to_run : (Ended : Type 0) (size : ℕ) (f : Fault) (input : List ℕ) → FailsToRead Record Ended f input → FailsToRead (Run size) Ended f input
fails_to_run Ended size (fault.Text f holder) input fails = fails
fails_to_run Ended size (fault.Script f) input fails = fails
fails_to_run Ended size (fault.NotAStep place) input fails = absurd fails
fails_to_run Ended size fault.TooManyPatterns input fails = absurd fails
fails_to_run Ended size fault.NoFinding input fails = absurd fails
fails_to_run Ended size fault.Read input fails = fails
fails_to_run Ended size fault.Write input fails = absurd fails
fails_to_run Ended size fault.OutOfMemory input fails = fails

-- a front of what is written of a run is a front of what may be written
front_of_run : (size : ℕ) (run : RunText) (input text : List ℕ) → IsRunTextOf size input run → IsFront text (text_in run) → IsFrontOf (Run size) input text
front_of_run size (Whole whole found) input text is front = (whole, inl (found, is), front)
front_of_run size (Cut whole) input text is front = (whole, inr is, front)

-- all that is written of a run explains the outcome that it has
all_explains : (size : ℕ) (Ended : Type 0) (run : RunText) (input : List ℕ) → Ended → IsRunTextOf size input run → Explains (Run size) Ended (outcome_in run) input (text_in run)
all_explains size Ended (Whole whole found) input ended is = is
all_explains size Ended (Cut whole) input ended is = inr (is, ended)

-- what was written of a run explains how the call ended
pub run_explains : (size : ℕ) (Ended : Type 0) (run : RunText) (outcome : Outcome) (input text : List ℕ) → Ended → IsRunTextOf size input run → EndsRun run outcome text → Explains (Run size) Ended outcome input text
run_explains size Ended run outcome input text ended is (inl all) =
    subst (λ o. Explains (Run size) Ended o input text) (sym all.0) (subst (Explains (Run size) Ended (outcome_in run) input) (sym all.1) (all_explains size Ended run input ended is))
run_explains size Ended run outcome input text ended is (inr (inl write, front)) =
    subst (λ o. Explains (Run size) Ended o input text) (sym write) (front_of_run size run input text is front, ended)
run_explains size Ended run outcome input text ended is (inr (inr memory, front)) =
    subst (λ o. Explains (Run size) Ended o input text) (sym memory) (inr (front_of_run size run input text is front, ended))
