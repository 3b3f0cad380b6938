-- Sets of places of a trace.
use Rattle.std.specs.Prelude.{◌≡◌, ◌<◌, ℕ, List, Bool, false, IsTrue, Some, length, slice_get, slice_index, unwrap_or}
use Rattle.trace_laws.specs.Event.{Event}
use Rattle.trace_laws.specs.Trace.{thread_at}
use Rattle.trace_laws.specs.Findings.{HasCount}

-- whether a place is in a set of flagged places
abbrev pub has : List Bool → ℕ → Bool
has members i = unwrap_or (slice_get members i) false

-- no place is in the set
abbrev pub IsEmpty : List Bool → Type 0
IsEmpty members = (i : ℕ) → has members i ≡ false

-- place p is in the set, and of thread t
abbrev pub IsMemberOf : List Event → ℕ → (ℕ → Bool) → ℕ → Type 0
IsMemberOf trace t set p = (thread_at trace p ≡ Some t) × IsTrue (set p)

-- for each thread the number of its places in the set
pub record AreCounts (trace : List Event) (threads : ℕ) (set : ℕ → Bool) (counts : List ℕ) : Type 0 where
  pub size : length counts ≡ threads
  pub members : (t : ℕ) → t < threads → HasCount (IsMemberOf trace t set) (slice_index counts t)
