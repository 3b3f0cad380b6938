-- Traces that are no run of a script.
use Rattle.std.specs.Prelude.{◌≡◌, ℕ, List, Some, slice_get, take}
use Rattle.trace_laws.specs.Event.{Event}
use Rattle.trace_laws.specs.Locations.{DoTheSame}
use Rattle.script_machine.specs.Machine.{Script, State, Taken, Step, LegalRun}

-- no step from the state is of the event's thread and operation
abbrev pub NoStepOf : Script → State → Event → Type 0
NoStepOf script s event = (taken : Taken) (s' : State) → Step script s taken s' → taken.event.thread ≡ event.thread → taken.event.op ≡ event.op → ⊥

-- The place is the first that is no step: the events before it do what a legal run does, and after that run no step is of
-- its thread and operation.
pub record IsFirstNoStep (script : Script) (events : List Event) (place : ℕ) : Type 0 where
  pub run : List Event
  pub end : State
  pub legal : LegalRun script run end
  pub before : DoTheSame run (take place events)
  pub event : Event
  pub at : slice_get events place ≡ Some event
  pub none : NoStepOf script end event
