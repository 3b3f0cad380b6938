-- The mode `replay`, which reads a script and a trace that is a run of it, and writes the replays of what is found in it.
use Rattle.std.specs.Prelude.{◌≡◌, ◌≤◌, ◌⊎◌, ℕ, Bool, true, false, List, [], length, nat_lt, Result, Ok, Err}
use Rattle.sp_base.specs.declared.limits.TheConstants.{MAX_INPUT}
use Rattle.trace_laws.specs.Event.{Event}
use Rattle.trace_laws.specs.Findings.{Found}
use Rattle.trace_laws.specs.Locations.{DoTheSame}
use Rattle.std_text.specs.Framing.{Progress, start_with}
use Rattle.std_text.specs.Refusal.{LineFault, Refusal}
use Rattle.script_machine.specs.Machine.{Script, State, LegalRun}
use Rattle.script_machine.specs.OfTrace.{IsFirstNoStep}
use Rattle.script_machine.specs.Recorded.{Recorded, IsRecording}
use Rattle.script_machine.specs.ScriptText.{Scripts, FirstFault}
use Rattle.pattern_walk.specs.Listed.{HasMorePatterns}
use Rattle.answers.specs.Replays.{WritesReplays, run_of}
use Rattle.intake.specs.Faults.{refusal_with}
use Rattle.intake.specs.Inputs.{scripts_in, trace_in, trace_line}
use Rattle.intake.specs.Lengths.{IsTooLong}
use Rattle.intake.specs.TraceTexts.{whole_reading}
use Rattle.predictor.specs.Predictions.{ArePredictions, HasFewPatterns, count_of_findings}
use Rattle.syncp.specs.declared.outcome.Fault.{Fault}
use Rattle.syncp.specs.declared.outcome.Fault.TheVariants as fault
use Rattle.syncp.specs.Tasks.{Task}

-- what the trace of an input says behind its script, whose names have their numbers already
abbrev pub reading_behind : Script → List ℕ → Result Progress Refusal
reading_behind script input = whole_reading (start_with script.names (trace_line input)) (trace_in input)

-- the input says a script and a trace
pub record Says (input : List ℕ) (script : Script) (p : Progress) : Type 0 where
  pub few : length input ≤ MAX_INPUT
  pub scripts : Scripts (scripts_in input) script
  pub trace : reading_behind script input ≡ Ok p

-- the input says a script, behind which the trace is refused
pub record SaysNoTrace (input : List ℕ) (refusal : Refusal) : Type 0 where
  pub few : length input ≤ MAX_INPUT
  pub script : Script
  pub scripts : Scripts (scripts_in input) script
  pub refused : reading_behind script input ≡ Err refusal

-- the input says a script and a trace, and the place is the first of the trace that is no step of the script
pub record SaysNoRun (input : List ℕ) (place : ℕ) : Type 0 where
  pub script : Script
  pub p : Progress
  pub says : Says input script p
  pub first : IsFirstNoStep script p.reading.events place

-- the input says a script and a trace, whose threads and operations are those of a legal run of the script
pub record SaysRun (input : List ℕ) : Type 0 where
  pub script : Script
  pub p : Progress
  pub says : Says input script p
  pub run : List Event
  pub end : State
  pub legal : LegalRun script run end
  pub same : DoTheSame run p.reading.events

-- the input says a script and a run of it that has too many patterns
pub record SaysManyPatterns (size : ℕ) (input : List ℕ) : Type 0 where
  pub run : SaysRun input
  pub many : HasMorePatterns run.run size

-- the text is that of the replays of all that is found in the trace that the input says, which has not too many patterns, and
-- whether there is any
pub record IsReplay (size : ℕ) (input text : List ℕ) (found : Bool) : Type 0 where
  pub run : SaysRun input
  pub all : Found
  pub predicted : ArePredictions (run_of run.script run.p.reading.events) size all
  pub few : HasFewPatterns run.run size
  pub replays : WritesReplays run.script (run_of run.script run.run) all text
  pub found_is : found ≡ nat_lt 0 (count_of_findings all)

-- a recording of the script in which the same threads do the same, or the first place that is no step
abbrev pub Records : Script → List Event → Result Recorded Fault → Type 0
Records script events (Ok r) = (r.machine.script ≡ script) × IsRecording r × DoTheSame r.trace.events events
Records script events (Err (fault.NotAStep place)) = IsFirstNoStep script events place
Records script events (Err fault.OutOfMemory) = Unit {0}
Records script events (Err f) = ⊥

-- why the whole input has no replay: its script is refused, then its trace, then the trace is no run of the script, and
-- then the run has too many patterns
abbrev pub FailsToReplay : ℕ → Fault → List ℕ → Type 0
FailsToReplay size (fault.Text f holder) input = SaysNoTrace input (refusal_with f holder)
FailsToReplay size (fault.Script f) input = (length input ≤ MAX_INPUT) × FirstFault (scripts_in input) f
FailsToReplay size (fault.NotAStep place) input = SaysNoRun input place
FailsToReplay size fault.TooManyPatterns input = SaysManyPatterns size input
FailsToReplay size fault.OutOfMemory input = Unit {0}
FailsToReplay size f input = ⊥

-- the input of scripts and a trace is refused for its length, or its trace is; Ended says that the source is at its end
abbrev pub IsRefusedText : Type 0 → LineFault → List ℕ → List ℕ → Type 0
IsRefusedText Ended f holder input = (IsTooLong input f × (holder ≡ [])) ⊎ (SaysNoTrace input (refusal_with f holder) × Ended)

-- the input is refused with this fault
abbrev pub IsRefusedReplay : ℕ → Type 0 → Fault → List ℕ → Type 0
IsRefusedReplay size Ended (fault.Text f holder) input = IsRefusedText Ended f holder input
IsRefusedReplay size Ended (fault.Script f) input = (length input ≤ MAX_INPUT) × FirstFault (scripts_in input) f × Ended
IsRefusedReplay size Ended (fault.NotAStep place) input = SaysNoRun input place × Ended
IsRefusedReplay size Ended fault.TooManyPatterns input = SaysManyPatterns size input × Ended
IsRefusedReplay size Ended f input = ⊥

-- The task of the mode, with deadlock patterns of at most a size. The input is a script and a trace of a run of it, which has
-- not too many patterns; its text is looked at once all of it is there.
abbrev pub Replay : ℕ → Task
Replay size = record {
  reads = true;
  passes = false;
  Accepts = λ input. (r : SaysRun input) × HasFewPatterns r.run size;
  Gives = IsReplay size;
  Cuts = λ input text. ⊥;
  Unfaulted = λ input. length input ≤ MAX_INPUT;
  Refuses = IsRefusedReplay size;
}
