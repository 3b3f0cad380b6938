-- The replays of an input, from its script, its trace and its recording.
use Rattle.std.proofs.Common.{◌≡◌, ◌≤◌, ℕ, ◌+◌, Bool, List, length, Some, Ok, Err, inl, inr, sym, ap, ◌∙◌, subst}
use Rattle.std.specs.declared.option.Option.{Option}
use Rattle.std.specs.Io.KnownBytes.{Consumes, IsAtEnd}
use Rattle.sp_base.specs.declared.limits.TheConstants.{MAX_INPUT}
use Rattle.trace_laws.specs.Findings.{Found}
use Rattle.trace_laws.specs.Locations.{DoTheSame, LocationsDoNotCount}
use Rattle.trace_laws.specs.Names.{NameLists}
use Rattle.std_text.specs.Framing.{Progress, start_with, after, closed}
use Rattle.std_text.specs.Refusal.{◌>>=◌}
use Rattle.script_machine.specs.Held.{meaning}
use Rattle.script_machine.specs.Laws.{ExclusiveLaw, OfLaw}
use Rattle.script_machine.specs.Machine.{Script, LegalRun}
use Rattle.script_machine.specs.OfTrace.{IsFirstNoStep}
use Rattle.script_machine.specs.Recorded.{Recorded}
use Rattle.script_machine.specs.ScriptText.{Scripts, FirstFault}
use Rattle.intake.specs.declared.fault.IntakeFault.{IntakeFault}
use Rattle.intake.specs.declared.fault.IntakeFault.TheVariants as intake
use Rattle.syncp.specs.Faults.{fault_of}
use Rattle.syncp.specs.declared.outcome.Fault.{Fault}
use Rattle.syncp.specs.declared.outcome.Fault.TheVariants as fault
use Rattle.intake.specs.Faults.{refusal_with, TellsRefusal, FailsToGather, FailsToScript}
use Rattle.intake.specs.Inputs.{scripts_in, trace_in, trace_line}
use Rattle.intake.specs.Lengths.{newlines}
use Rattle.pattern_walk.specs.Listed.{HasMorePatterns}
use Rattle.predictor.specs.Predictions.{ArePredictions}
use Rattle.syncp.specs.Outcome.{FailsToRead}
use Rattle.syncp.specs.ReplayMode.{Replay, Says, SaysNoTrace, SaysNoRun, SaysRun, SaysManyPatterns, IsReplay, FailsToReplay, Records, reading_behind}
use Rattle.syncp.specs.Tasks.{IsAccepted, IsRefusedIn}
use Rattle.answers.specs.Replays.{ReplaysRun, WritesReplays, run_of}
use Rattle.answers.proofs.CompleteRuns.{leads_to, trace_is_run}
use Rattle.syncp.proofs.ReadWhole.{no_excess, taken_all}

-- a fault while scripts and a trace were gathered
pub gathering_fails_to_replay : (Ended : Type 0) (size : ℕ) (f : IntakeFault) (input : List ℕ) → FailsToGather f input → FailsToRead (Replay size) Ended (fault_of f) input
gathering_fails_to_replay Ended size (intake.Text f holder) input fails = inl fails
gathering_fails_to_replay Ended size (intake.Script f) input fails = absurd fails
gathering_fails_to_replay Ended size intake.Read input fails = fails
gathering_fails_to_replay Ended size intake.OutOfMemory input fails = tt

-- The size of patterns, the parts of an input, and the number of the trace's first line.
module _ (size : ℕ) (input scripts trace : List ℕ) (line : ℕ) (few : length input ≤ MAX_INPUT) (scripts_are : scripts ≡ scripts_in input) (trace_is : trace ≡ trace_in input) (line_is : line ≡ newlines scripts + 2) where
  -- a refused script
  pub script_refused : (f : IntakeFault) → FailsToScript f scripts → FailsToReplay size (fault_of f) input
  script_refused (intake.Text f holder) fails = absurd fails
  script_refused (intake.Script f) fails = (few, subst (λ text. FirstFault text f) scripts_are fails)
  script_refused intake.Read fails = absurd fails
  script_refused intake.OutOfMemory fails = tt

  module _ (script : Script) (said : Scripts scripts script) (names : NameLists) (names_are : names ≡ script.names) where
    -- the script of the input
    script_said : Scripts (scripts_in input) script
    script_said = subst (λ text. Scripts text script) scripts_are said

    -- the line of the input
    line_there : line ≡ trace_line input
    line_there = line_is ∙ ap (λ text. newlines text + 2) scripts_are

    -- the reading of the input
    behind : (after (start_with names line) trace >>= closed) ≡ reading_behind script input
    behind = λ i. after (start_with (names_are i) (line_there i)) (trace_is i) >>= closed

    -- a refused trace
    pub trace_refused : (f : IntakeFault) → TellsRefusal (after (start_with names line) trace >>= closed) f → FailsToReplay size (fault_of f) input
    trace_refused (intake.Text f holder) refused = record { few = few; script = script; scripts = script_said; refused = sym behind ∙ refused }
    trace_refused (intake.Script f) refused = absurd refused
    trace_refused intake.Read refused = absurd refused
    trace_refused intake.OutOfMemory refused = tt

    module _ (p : Progress) (reads : (after (start_with names line) trace >>= closed) ≡ Ok p) where
      -- what the input says
      says : Says input script p
      says = record { few = few; scripts = script_said; trace = sym behind ∙ reads }

      -- a trace that is no run
      pub run_refused : (f : Fault) → Records script p.reading.events (Err f) → FailsToReplay size f input
      run_refused (fault.Text f holder) odd = absurd odd
      run_refused (fault.Script f) odd = absurd odd
      run_refused (fault.NotAStep place) odd = record { script = script; p = p; says = says; first = odd }
      run_refused fault.TooManyPatterns odd = absurd odd
      run_refused fault.NoFinding odd = absurd odd
      run_refused fault.Read odd = absurd odd
      run_refused fault.Write odd = absurd odd
      run_refused fault.OutOfMemory odd = tt

      module _ (law : LocationsDoNotCount) (r : Recorded) (records : Records script p.reading.events (Ok r)) where
        -- the recording has the script's number of threads
        is_run : r.trace ≡ run_of script r.trace.events
        is_run = trace_is_run script r records.0 records.1

        -- what is predicted of it is predicted of the trace
        predicted : (all : Found) → ArePredictions r.trace size all → ArePredictions (run_of script p.reading.events) size all
        unfolding ArePredictions
        predicted all are = law r.trace.events p.reading.events (length script.bodies) size all records.2 (subst (λ h. ArePredictions h size all) is_run are)

        -- the run that the input says
        abbrev run_said : SaysRun input
        run_said = record {
          script = script;
          p = p;
          says = says;
          run = r.trace.events;
          end = meaning r.machine;
          legal = leads_to script r records.0 records.1;
          same = records.2;
        }

        -- the replays of the recording
        pub replayed : (text : List ℕ) (found : Bool) → ReplaysRun size script r.trace (Ok (text, found)) → IsReplay size input text found
        replayed text found replays = record {
          run = run_said;
          all = replays.0;
          predicted = predicted replays.0 replays.1;
          few = replays.2;
          replays = subst (λ h. WritesReplays script h replays.0 text) is_run replays.3;
          found_is = replays.4;
        }

        -- it has too many patterns
        pub run_has_many : HasMorePatterns r.trace.events size → SaysManyPatterns size input
        run_has_many many = record { run = run_said; many = many }

-- scripts with a run of them are not refused
pub replay_not_refused : ExclusiveLaw → OfLaw → (f : Fault) (size : ℕ) (new : Option (List ℕ)) (all input : List ℕ) → Consumes (Some all) new input → IsAccepted (Replay size) all → IsRefusedIn (Replay size) (IsAtEnd new) f input → ⊥
replay_not_refused law of (fault.Text f holder) size new all input c (run, few) (inl known) = no_excess new all input c run.says.few known.0.over
replay_not_refused law of (fault.Text f holder) size new all input c (run, few) (inr known) =
    let same : all ≡ input = taken_all new all input c known.1 in
    let no = subst (λ text. SaysNoTrace text (refusal_with f holder)) (sym same) known.0 in
    let script : run.script ≡ no.script = (law (scripts_in all) run.script run.says.scripts).0 no.script no.scripts in
    let refused : reading_behind run.script all ≡ Err (refusal_with f holder) = subst (λ s. reading_behind s all ≡ Err (refusal_with f holder)) (sym script) no.refused in
    let read = run.says.trace in
    cc
replay_not_refused law of (fault.Script f) size new all input c (run, few) known =
    let same = taken_all new all input c known.2 in
    (law (scripts_in all) run.script run.says.scripts).1 f (subst (λ text. FirstFault (scripts_in text) f) (sym same) known.1)
replay_not_refused law of (fault.NotAStep place) size new all input c (run, few) known =
    let same : all ≡ input = taken_all new all input c known.1 in
    let no = subst (λ text. SaysNoRun text place) (sym same) known.0 in
    let script : run.script ≡ no.script = (law (scripts_in all) run.script run.says.scripts).0 no.script no.says.scripts in
    let read : reading_behind run.script all ≡ Ok no.p = subst (λ s. reading_behind s all ≡ Ok no.p) (sym script) no.says.trace in
    let one : run.p ≡ no.p = (let here = run.says.trace in cc) in
    let first = subst (λ s. IsFirstNoStep s no.p.reading.events place) (sym script) no.first in
    (of run.script run.p.reading.events run.run run.end run.legal run.same).0 place (subst (λ p. IsFirstNoStep run.script p.reading.events place) (sym one) first)
replay_not_refused law of fault.TooManyPatterns size new all input c (run, few) known =
    let same : all ≡ input = taken_all new all input c known.1 in
    let past = subst (λ text. SaysManyPatterns size text) (sym same) known.0 in
    let script : run.script ≡ past.run.script = (law (scripts_in all) run.script run.says.scripts).0 past.run.script past.run.says.scripts in
    let read : reading_behind run.script all ≡ Ok past.run.p = subst (λ s. reading_behind s all ≡ Ok past.run.p) (sym script) past.run.says.trace in
    let one : run.p ≡ past.run.p = (let here = run.says.trace in cc) in
    let legal = subst (λ s. LegalRun s past.run.run past.run.end) (sym script) past.run.legal in
    let still : DoTheSame past.run.run run.p.reading.events = subst (λ (p : Progress). DoTheSame past.run.run p.reading.events) (sym one) past.run.same in
    let runs = (of run.script run.p.reading.events run.run run.end run.legal run.same).1 past.run.run past.run.end legal still in
    few (subst (λ es. HasMorePatterns es size) (sym runs.0) past.many)
replay_not_refused law of fault.NoFinding size new all input c run known = known
replay_not_refused law of fault.Read size new all input c run known = known
replay_not_refused law of fault.Write size new all input c run known = known
replay_not_refused law of fault.OutOfMemory size new all input c run known = known
