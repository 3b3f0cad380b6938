-- The text of a run, from its pieces.
use Rattle.std.proofs.Common.{◌≡◌, ℕ, List, ◌++◌, ap, ◌∙◌, subst}
use Rattle.std.specs.Prelude.{nat_lt}
use Rattle.trace_laws.specs.Findings.{Found}
use Rattle.script_machine.specs.Held.{meaning}
use Rattle.script_machine.specs.Machine.{Script, IsComplete}
use Rattle.script_machine.specs.Recorded.{Recorded, IsRecording}
use Rattle.predictor.specs.Predictions.{ArePredictions, HasFewPatterns, count_of_findings}
use Rattle.answers.specs.Replays.{WritesReplays}
use Rattle.std_text.specs.Writing.{trace_text}
use Rattle.pattern_walk.specs.Listed.{HasMorePatterns}
use Rattle.answers.specs.Runs.{WritesRun, CutsRun, mark_line, run_text}
use Rattle.answers.proofs.CompleteRuns.{run_is_complete, trace_is_run}

-- five texts, each written behind those before it
pub five_behind : (a b c d e ab abc abcd all : List ℕ) → ab ≡ a ++ b → abc ≡ ab ++ c → abcd ≡ abc ++ d → all ≡ abcd ++ e → all ≡ a ++ b ++ c ++ d ++ e
five_behind a b c d e ab abc abcd all second third fourth fifth =
    fifth ∙ ap (λ l. l ++ e) (fourth ∙ ap (λ l. l ++ d) (third ∙ ap (λ l. l ++ c) second))

-- a recording after which no thread can step, with what is found in it and the lines of the replays, is written as a run
pub run_written : (size : ℕ) (script : Script) (r : Recorded) (all : Found) (replays text : List ℕ) (count : ℕ) → r.machine.script ≡ script → IsRecording r → IsComplete script (meaning r.machine)
    → ArePredictions r.trace size all → HasFewPatterns r.trace.events size → WritesReplays script r.trace all replays → text ≡ run_text script r.trace.events (meaning r.machine) all replays → count ≡ count_of_findings all
    → WritesRun size script text (nat_lt 0 count)
run_written size script r all replays text count same recording complete are few replayed written counted =
    let is_run = trace_is_run script r same recording in
    record {
      events = r.trace.events;
      end = meaning r.machine;
      run = run_is_complete script r same recording complete;
      all = all;
      predicted = subst (λ h. ArePredictions h size all) is_run are;
      few = few;
      replays = replays;
      replayed = subst (λ h. WritesReplays script h all replays) is_run replayed;
      written = written;
      found_is = ap (nat_lt 0) counted;
    }

-- such a recording with too many patterns is written up to the mark
pub run_cut : (size : ℕ) (script : Script) (r : Recorded) (text : List ℕ) → r.machine.script ≡ script → IsRecording r → IsComplete script (meaning r.machine)
    → HasMorePatterns r.trace.events size → text ≡ trace_text script.names r.trace.events ++ mark_line → CutsRun size script text
run_cut size script r text same recording complete many written = record {
  events = r.trace.events;
  end = meaning r.machine;
  run = run_is_complete script r same recording complete;
  many = many;
  written = written;
}
