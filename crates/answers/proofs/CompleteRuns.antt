-- The run of a recording.
use Rattle.std.proofs.Common.{◌≡◌, length, ap, ◌∙◌, subst}
use Rattle.script_machine.specs.Machine.{Script, LegalRun, IsComplete}
use Rattle.script_machine.specs.Held.{meaning}
use Rattle.script_machine.specs.Recorded.{Recorded, IsRecording}
use Rattle.answers.specs.Runs.{IsCompleteRun}
use Rattle.answers.specs.Replays.{run_of}

module _ (script : Script) (r : Recorded) (same : r.machine.script ≡ script) (recording : IsRecording r) where
  -- its events lead to the state of its machine
  pub leads_to : LegalRun script r.trace.events (meaning r.machine)
  leads_to = subst (λ x. LegalRun x r.trace.events (meaning r.machine)) same recording.legal

  -- its trace has the script's number of threads
  pub trace_is_run : r.trace ≡ run_of script r.trace.events
  trace_is_run = let count = recording.threads ∙ ap (λ s. length s.bodies) same in λ i. record { events = r.trace.events; threads = count i }

  -- where no thread can step after it, its run is complete
  pub run_is_complete : IsComplete script (meaning r.machine) → IsCompleteRun script r.trace.events (meaning r.machine)
  run_is_complete complete = record { legal = leads_to; complete = complete }
