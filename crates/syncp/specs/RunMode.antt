-- The mode `run`, which writes the trace that is recorded of a script and all that is found in it.
use Rattle.std.specs.Prelude.{◌≡◌, ◌≤◌, ◌⊎◌, ℕ, Bool, true, List, length}
use Rattle.sp_base.specs.Moves.{IsFront}
use Rattle.sp_base.specs.declared.limits.TheConstants.{MAX_INPUT}
use Rattle.script_machine.specs.Machine.{Script}
use Rattle.answers.specs.Runs.{WritesRun, CutsRun, text_in}
use Rattle.answers.specs.declared.runs.RunText.{RunText}
use Rattle.answers.specs.declared.runs.RunText.TheVariants.{Whole, Cut}
use Rattle.syncp.specs.declared.outcome.Fault.TheVariants.{TooManyPatterns, Write, OutOfMemory}
use Rattle.syncp.specs.declared.outcome.Outcome.{Outcome}
use Rattle.syncp.specs.declared.outcome.Outcome.TheVariants.{Done, Refused}
use Rattle.intake.specs.Reads.{IsScriptOf}
use Rattle.syncp.specs.Refusals.{IsRefusedScript}
use Rattle.syncp.specs.Tasks.{Task}

-- the text is that of a complete legal run of the script that the input is, and whether anything is found in it
pub record IsRunOf (size : ℕ) (input text : List ℕ) (found : Bool) : Type 0 where
  pub script : Script
  pub is : IsScriptOf input script
  pub writes : WritesRun size script text found

-- the text is that of such a run of the script that the input is
pub record IsCutRunOf (size : ℕ) (input text : List ℕ) : Type 0 where
  pub script : Script
  pub is : IsScriptOf input script
  pub cuts : CutsRun size script text

-- so with the script that the input is
abbrev pub IsRunTextOf : ℕ → List ℕ → RunText → Type 0
IsRunTextOf size input (Whole text found) = IsRunOf size input text found
IsRunTextOf size input (Cut text) = IsCutRunOf size input text

-- how a call ends that has written it
abbrev pub outcome_in : RunText → Outcome
outcome_in (Whole text found) = Done found
outcome_in (Cut text) = Refused TooManyPatterns

-- what was written of a run, and how the call ended: all was written, or a front of it and then came a fault
abbrev pub EndsRun : RunText → Outcome → List ℕ → Type 0
EndsRun run outcome text = ((outcome ≡ outcome_in run) × (text ≡ text_in run))
    ⊎ (((outcome ≡ Refused Write) ⊎ (outcome ≡ Refused OutOfMemory)) × IsFront text (text_in run))

-- The task of the mode, with deadlock patterns of at most a size. The input is as for `record`. Where the run that was
-- recorded has too many patterns, its trace and the mark are written.
abbrev pub Run : ℕ → Task
Run size = record {
  reads = true;
  passes = true;
  Accepts = λ input. (script : Script) × IsScriptOf input script;
  Gives = IsRunOf size;
  Cuts = IsCutRunOf size;
  Unfaulted = λ input. length input ≤ MAX_INPUT;
  Refuses = IsRefusedScript;
}
