-- The replays of what is found in a run of a script.
use Rattle.std.specs.Prelude.{◌≡◌, ◌+◌, ℕ, Bool, List, [], ◌∷◌, ◌++◌, length, nat_lt, Result, Ok, Err}
use Rattle.std.specs.List.{AllZip}
use Rattle.trace_laws.specs.Event.{Event}
use Rattle.trace_laws.specs.Findings.{Found}
use Rattle.trace_laws.specs.declared.finding.Finding.{Finding}
use Rattle.trace_laws.specs.Names.{NameLists}
use Rattle.trace_laws.specs.Traces.{History}
use Rattle.script_machine.specs.Machine.{Script}
use Rattle.pattern_walk.specs.Listed.{HasMorePatterns}
use Rattle.predictor.specs.declared.search.FindFault.{FindFault}
use Rattle.predictor.specs.declared.search.FindFault.TheVariants.{TooManyPatterns, OutOfMemory}
use Rattle.predictor.specs.Predictions.{ArePredictions, HasFewPatterns, count_of_findings}
use Rattle.replayer.specs.Replayed.{Replayed, IsRaceReplay, IsDeadlockReplay, IsReplayOf}
use Rattle.report.specs.ReachedLines.{reached_line, closing_reached}

-- a run with the number of threads of its script
abbrev pub run_of : Script → List Event → History
run_of script events = record { events = events; threads = length script.bodies }

-- the lines of replays, which are numbered on
abbrev pub reached_lines : NameLists → ℕ → List Replayed → List ℕ
reached_lines names n [] = []
reached_lines names n (replay ∷ replays) = reached_line names n replay ++ reached_lines names (n + 1) replays

-- the lines of replays, which are numbered from 1, and the last line
abbrev pub replays_text : NameLists → List Replayed → List ℕ
replays_text names replays = reached_lines names 1 replays ++ closing_reached (length replays)

-- one more replay, whose line stands behind the others
pub record AddsReplay (script : Script) (run : History) (finding : Finding) (number : ℕ) (old new : List ℕ) : Type 0 where
  pub replay : Replayed
  pub is : IsReplayOf script run finding replay
  pub line : new ≡ old ++ reached_line script.names number replay

-- The text is that of the replays of all that is found in a run, of the races and then of the deadlocks: each takes the
-- script along the kept events of its finding.
pub record WritesReplays (script : Script) (run : History) (found : Found) (text : List ℕ) : Type 0 where
  pub races : List Replayed
  pub deadlocks : List Replayed
  pub of_races : AllZip (IsRaceReplay script run) found.races races
  pub of_deadlocks : AllZip (IsDeadlockReplay script run) found.deadlocks deadlocks
  pub written : text ≡ replays_text script.names (races ++ deadlocks)

-- the text of the replays of all that is found in a run, and whether there is any; or too many patterns, or want of memory
abbrev pub ReplaysRun : ℕ → Script → History → Result (List ℕ × Bool) FindFault → Type 0
ReplaysRun size script run (Ok r) = (all : Found) × ArePredictions run size all × HasFewPatterns run.events size × WritesReplays script run all r.0 × (r.1 ≡ nat_lt 0 (count_of_findings all))
ReplaysRun size script run (Err TooManyPatterns) = HasMorePatterns run.events size
ReplaysRun size script run (Err OutOfMemory) = Unit {0}
