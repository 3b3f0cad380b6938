-- What a grant answers, and what it leaves.
use Rattle.std.specs.Prelude.{◌≡◌, ◌≢◌, ◌++◌, ◌∷◌, [], ◌+◌, ◌≤◌, ℕ, length}
use Rattle.trace_laws.specs.Event.{Event}
use Rattle.script_machine.specs.Machine.{Script, State, StepOf, CanStep, IsEnded, size_of}
use Rattle.script_machine.specs.Held.{meaning}
use Rattle.script_machine.specs.Recorded.{Running}
use Rattle.row_locks.specs.declared.state.Grant.{Grant}
use Rattle.row_locks.specs.declared.state.Grant.TheVariants.{Done, Blocked, Ended}
use Rattle.row_locks.specs.Tallies.{events_by}

-- thread t has not ended, and cannot step
pub record IsBlocked (script : Script) (s : State) (t : ℕ) : Type 0 where
  pub not_ended : ¬ (IsEnded script s t)
  pub stuck : ¬ (CanStep script s t)

-- The step of thread t, and exactly its event appended. So one more event is of that thread, and as many as before of each
-- other.
pub record IsGranted (s : Running) (t : ℕ) (event : Event) (s' : Running) : Type 0 where
  pub script : s'.machine.script ≡ s.machine.script
  pub step : StepOf s.machine.script (meaning s.machine) t event (meaning s'.machine)
  pub events : s'.events ≡ s.events ++ event ∷ []
  pub own : events_by t s'.events ≡ events_by t s.events + 1
  pub others : (u : ℕ) → u ≢ t → events_by u s'.events ≡ events_by u s.events
  pub few : length s'.events ≤ size_of s'.machine.script

-- what a grant to thread t answers, and what it leaves
abbrev pub Granted : Running → ℕ → Grant → Running → Type 0
Granted s t (Done event) s' = IsGranted s t event s'
Granted s t Blocked s' = s' ≡ s
Granted s t Ended s' = s' ≡ s
