-- Sections that hold a place.
use Rattle.std.specs.Prelude.{◌≡◌, ◌<◌, ◌≤◌, ℕ, List, Some}
use Rattle.trace_laws.specs.Event.{Event}
use Rattle.trace_laws.specs.Trace.{thread_at, Excludes, IsReleaseOf}
use Rattle.trace_index.specs.HeldSets.{IsAcquire}

-- place a is an acquire of the thread of the place, at or before it
pub record IsBegun (events : List Event) (place a : ℕ) : Type 0 where
  pub acquire : IsAcquire events a
  pub same : thread_at events a ≡ thread_at events place
  pub within : a ≤ place

-- behind place a thread t acquires its lock again, before the later place
pub record IsTakenAgain (events : List Event) (a t later : ℕ) : Type 0 where
  pub again : ℕ
  pub excludes : Excludes events a again
  pub is_of : thread_at events again ≡ Some t
  pub before : again < later

-- the section of place a ends behind the place
pub record EndsBehind (events : List Event) (a place : ℕ) : Type 0 where
  pub end : ℕ
  pub release : IsReleaseOf events a end
  pub behind : place < end
