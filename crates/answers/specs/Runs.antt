-- A run of a script with all that is written of it.
use Rattle.std.specs.Prelude.{◌≡◌, ℕ, Bool, List, ◌++◌, codes, nat_lt}
use Rattle.trace_laws.specs.Event.{Event}
use Rattle.trace_laws.specs.Findings.{Found}
use Rattle.std_text.specs.Writing.{trace_text}
use Rattle.script_machine.specs.Machine.{Script, State, LegalRun, IsComplete}
use Rattle.report.specs.EndLines.{ends_text}
use Rattle.report.specs.Reports.{report_text}
use Rattle.pattern_walk.specs.Listed.{HasMorePatterns}
use Rattle.predictor.specs.Predictions.{ArePredictions, HasFewPatterns, count_of_findings}
use Rattle.answers.specs.declared.runs.RunText.{RunText}
use Rattle.answers.specs.declared.runs.RunText.TheVariants.{Whole, Cut}
use Rattle.answers.specs.Replays.{WritesReplays, run_of}

-- the events are a legal run of the script, which leads to this state, where no thread can step
pub record IsCompleteRun (script : Script) (events : List Event) (end : State) : Type 0 where
  pub legal : LegalRun script events end
  pub complete : IsComplete script end

-- the line between the trace of a run and its report
abbrev pub mark_line : List ℕ
mark_line = codes "%%\n"

-- what is written of a run: its trace, the mark, the report of what is found in it, the lines of the replays, and how the
-- threads stand at its end
abbrev pub run_text : Script → List Event → State → Found → List ℕ → List ℕ
run_text script events end all replays =
    trace_text script.names events ++ mark_line ++ report_text events all ++ replays ++ ends_text script.names script end

-- The text is that of a complete legal run of the script, which has not too many patterns. The report is that of what is found
-- in this very run, the replays are those of what is found in it, and the end lines are those of the state that it leads to.
pub record WritesRun (size : ℕ) (script : Script) (text : List ℕ) (found : Bool) : Type 0 where
  pub events : List Event
  pub end : State
  pub run : IsCompleteRun script events end
  pub all : Found
  pub predicted : ArePredictions (run_of script events) size all
  pub few : HasFewPatterns events size
  pub replays : List ℕ
  pub replayed : WritesReplays script (run_of script events) all replays
  pub written : text ≡ run_text script events end all replays
  pub found_is : found ≡ nat_lt 0 (count_of_findings all)

-- The text is the trace of a complete legal run of the script, with the mark behind it, and this very run has too many
-- patterns.
pub record CutsRun (size : ℕ) (script : Script) (text : List ℕ) : Type 0 where
  pub events : List Event
  pub end : State
  pub run : IsCompleteRun script events end
  pub many : HasMorePatterns events size
  pub written : text ≡ trace_text script.names events ++ mark_line

-- what is written of a run: all of it, with whether anything is found, or the front alone, where there are too many patterns
abbrev pub IsRunText : ℕ → Script → RunText → Type 0
IsRunText size script (Whole text found) = WritesRun size script text found
IsRunText size script (Cut text) = CutsRun size script text

-- the bytes of what is written of a run
abbrev pub text_in : RunText → List ℕ
text_in (Whole text found) = text
text_in (Cut text) = text
