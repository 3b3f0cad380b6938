-- Sets of places by a cut for each thread: a thread's places in the set are those below its cut.
use Rattle.std.specs.Prelude.{◌≡◌, ◌<◌, ◌+◌, ℕ, List, [], ◌∷◌, Bool, Some, nat_lt, length, slice_index}
use Rattle.trace_laws.specs.Event.{Event}
use Rattle.trace_laws.specs.Trace.{thread_at}
use Rattle.trace_laws.specs.Closed.{ClosedSet, HoldsAll}

-- place i is of a thread, and below the cut of that thread
pub record IsHeld (events : List Event) (cuts : List ℕ) (i : ℕ) : Type 0 where
  pub thread : ℕ
  pub is_of : thread_at events i ≡ Some thread
  pub below : i < slice_index cuts thread

-- a flag for each of the events, of which the first stands at place i: whether it is in the set
abbrev pub flags_from : ℕ → List Event → List ℕ → List Bool
flags_from i [] cuts = []
flags_from i (e ∷ events) cuts = nat_lt i (slice_index cuts e.thread) ∷ flags_from (i + 1) events cuts

-- the set as flags
unfoldable pub flags_of : List Event → List ℕ → List Bool
flags_of events cuts = flags_from 0 events cuts

-- The new set holds the old one and each place of which P holds, and lies in every closed set that holds these.
pub record Admits (events : List Event) (P : ℕ → Type 0) (old new : List ℕ) : Type 0 where
  pub size : length new ≡ length old
  pub keeps : (i : ℕ) → IsHeld events old i → IsHeld events new i
  pub holds : (i : ℕ) → P i → IsHeld events new i
  pub least : (other : ℕ → Bool) → ClosedSet events other → HoldsAll (IsHeld events old) other → HoldsAll P other → HoldsAll (IsHeld events new) other
