-- What is recorded of a script.
use Rattle.std.proofs.Common.{◌≡◌, false, List, ℕ, inl, refl}
use Rattle.sp_base.specs.Moves.{IsFront}
use Rattle.std_text.specs.Writing.{trace_text}
use Rattle.script_machine.specs.Machine.{Script, IsComplete}
use Rattle.script_machine.specs.Held.{meaning}
use Rattle.script_machine.specs.Recorded.{Recorded, IsRecording}
use Rattle.answers.proofs.CompleteRuns.{run_is_complete}
use Rattle.intake.specs.Reads.{IsScriptOf}
use Rattle.syncp.specs.RecordMode.{Record, IsRecordOf}
use Rattle.syncp.specs.Tasks.{IsFrontOf}

module _ (input : List ℕ) (script : Script) (r : Recorded) (is : IsScriptOf input script) (same : r.machine.script ≡ script) (recording : IsRecording r) (complete : IsComplete script (meaning r.machine)) where
  -- the text of a recording is the output for the input
  pub recorded : (text : List ℕ) → text ≡ trace_text script.names r.trace.events → IsRecordOf input text
  recorded text written = record {
    script = script;
    is = is;
    recorded = record {
      events = r.trace.events;
      end = meaning r.machine;
      run = run_is_complete script r same recording complete;
      written = written;
    };
  }

  -- and a front of it is a front of that
  pub front_recorded : (text : List ℕ) → IsFront text (trace_text script.names r.trace.events) → IsFrontOf Record input text
  front_recorded text front = (trace_text script.names r.trace.events, inl (false, (recorded (trace_text script.names r.trace.events) refl, refl)), front)
