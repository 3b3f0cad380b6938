-- What a call answers, and how many granted calls it leaves its pass.
use Rattle.std.specs.Prelude.{◌≡◌, ℕ, ◌+◌, List}
use Rattle.trace_laws.specs.Event.{Event}
use Rattle.script_machine.specs.Machine.{Script, State, LegalRun, IsEnded}
use Rattle.row_locks.specs.Tallies.{events_by}
use Rattle.row_locks.specs.Grants.{IsBlocked}
use Rattle.row_locks.specs.declared.state.Grant.{Grant}
use Rattle.row_locks.specs.declared.state.Grant.TheVariants as grant
use Rattle.recorder.specs.declared.call.Call.{Call}
use Rattle.recorder.specs.declared.call.Call.TheVariants.{Done, Ended, Parked}

-- some legal run of the script has this many events of thread t, and P holds of the state after it
pub record HasRunTo (script : Script) (t granted : ℕ) (P : State → Type 0) : Type 0 where
  pub events : List Event
  pub end : State
  pub legal : LegalRun script events end
  pub count : events_by t events ≡ granted
  pub stands : P end

-- the event is of thread t, and counts as one more granted call
pub record IsCounted (t granted : ℕ) (event : Event) (granted' : ℕ) : Type 0 where
  pub thread : event.thread ≡ t
  pub one_more : granted' ≡ granted + 1

-- no call was granted, and thread t with as many events as its granted calls may stand as P says
pub record HasStopped (script : Script) (t granted : ℕ) (P : State → Type 0) (granted' : ℕ) : Type 0 where
  pub same : granted' ≡ granted
  pub run : HasRunTo script t granted P

-- what a call of thread t answers, where so many of its calls were granted before it and so many after it
abbrev pub Called : Script → ℕ → ℕ → Call → ℕ → Type 0
Called script t granted (Done event) granted' = IsCounted t granted event granted'
Called script t granted Ended granted' = HasStopped script t granted (λ s. IsEnded script s t) granted'
Called script t granted (Parked standstill) granted' = HasStopped script t granted (λ s. IsBlocked script s t) granted'

-- the same of one turn of a call
abbrev pub Turned : Script → ℕ → ℕ → Grant → ℕ → Type 0
Turned script t granted (grant.Done event) granted' = IsCounted t granted event granted'
Turned script t granted grant.Ended granted' = HasStopped script t granted (λ s. IsEnded script s t) granted'
Turned script t granted grant.Blocked granted' = HasStopped script t granted (λ s. IsBlocked script s t) granted'
