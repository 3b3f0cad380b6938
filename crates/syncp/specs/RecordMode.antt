-- The mode `record`, which writes the trace that is recorded of a script.
use Rattle.std.specs.Prelude.{◌≡◌, ◌≤◌, ℕ, true, false, List, length}
use Rattle.sp_base.specs.declared.limits.TheConstants.{MAX_INPUT}
use Rattle.trace_laws.specs.Event.{Event}
use Rattle.std_text.specs.Writing.{trace_text}
use Rattle.script_machine.specs.Machine.{Script, State}
use Rattle.answers.specs.Runs.{IsCompleteRun}
use Rattle.intake.specs.Reads.{IsScriptOf}
use Rattle.syncp.specs.Refusals.{IsRefusedScript}
use Rattle.syncp.specs.Tasks.{Task}

-- the text is that of a complete legal run of the script, with its names
pub record IsRecordedText (script : Script) (text : List ℕ) : Type 0 where
  pub events : List Event
  pub end : State
  pub run : IsCompleteRun script events end
  pub written : text ≡ trace_text script.names events

-- the text of such a run of the script that the input is
pub record IsRecordOf (input text : List ℕ) : Type 0 where
  pub script : Script
  pub is : IsScriptOf input script
  pub recorded : IsRecordedText script text

-- The task of the mode. The input is a script of no more bytes than an input may have; its text is looked at once all of it is
-- there.
abbrev pub Record : Task
Record = record {
  reads = true;
  passes = false;
  Accepts = λ input. (script : Script) × IsScriptOf input script;
  Gives = λ input text found. IsRecordOf input text × (found ≡ false);
  Cuts = λ input text. ⊥;
  Unfaulted = λ input. length input ≤ MAX_INPUT;
  Refuses = IsRefusedScript;
}
