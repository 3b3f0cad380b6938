-- Runs with the machine after them.
use Rattle.std.specs.Prelude.{◌≡◌, ◌<◌, ℕ, List, Some, length, slice_get}
use Rattle.trace_laws.specs.Event.{Event}
use Rattle.trace_laws.specs.Traces.{History}
use Rattle.script_machine.specs.Machine.{Script, LegalRun, OpInRange}
use Rattle.script_machine.specs.ScriptBounds.{IsScript}
use Rattle.script_machine.specs.Held.{Held, meaning}

-- the events so far, and the machine after them
pub record Running : Type 0 where
  pub machine : Held
  pub events : List Event

-- the events are a legal run of the script, and the machine is the one after it
pub record IsRun (r : Running) : Type 0 where
  pub script : IsScript r.machine.script
  pub legal : LegalRun r.machine.script r.events (meaning r.machine)

-- a trace, and the machine after its events
pub record Recorded : Type 0 where
  pub machine : Held
  pub trace : History

-- the trace is a legal run of the script, with the script's number of threads, and the machine is the one after it
pub record IsRecording (r : Recorded) : Type 0 where
  pub script : IsScript r.machine.script
  pub legal : LegalRun r.machine.script r.trace.events (meaning r.machine)
  pub threads : r.trace.threads ≡ length r.machine.script.bodies

-- the threads of the events are threads of the script, and their operands are locks, variables and threads of it
pub record AreInRange (script : Script) (events : List Event) : Type 0 where
  pub threads : (i : ℕ) (e : Event) → slice_get events i ≡ Some e → e.thread < length script.bodies
  pub operands : (i : ℕ) (e : Event) → slice_get events i ≡ Some e → OpInRange script e.op
