-- The held sets of acquires.
use Rattle.std.specs.Prelude.{◌≡◌, ◌<◌, ◌≤◌, ◌↔◌, ℕ, List, Vec, Some, length, slice_get, slice_index, Contains}
use Rattle.std.specs.declared.alloc.Global.{Global}
use Rattle.sp_base.specs.declared.limits.TheConstants.{MAX_LOCKS, MAX_THREADS}
use Rattle.trace_laws.specs.Event.{Event}
use Rattle.trace_laws.specs.declared.event.Op.TheVariants.{Acquire}
use Rattle.trace_laws.specs.Trace.{thread_at, op_at, Holds}
use Rattle.trace_laws.specs.Reordering.{Rises}
pub use Rattle.closed_fronts.specs.Tables.{IsAcquire}

-- the lock is in the held set of the place: the place's thread holds it just before the place
pub record IsHeldAt (events : List Event) (place lock : ℕ) : Type 0 where
  pub thread : ℕ
  pub is_of : thread_at events place ≡ Some thread
  pub holds : Holds events ◌<◌ place thread lock

-- the list has exactly the held set of the place, from the least lock on
pub record IsHeldSet (events : List Event) (place : ℕ) (held : List ℕ) : Type 0 where
  pub order : Rises held
  pub members : (l : ℕ) → Contains held l ↔ IsHeldAt events place l

-- the held sets of two places are equal
abbrev pub HaveSameHeld : List Event → ℕ → ℕ → Type 0
HaveSameHeld events a b = (l : ℕ) → IsHeldAt events a l ↔ IsHeldAt events b l

-- the held sets of two places have no lock in common
abbrev pub HaveNoneCommon : List Event → ℕ → ℕ → Type 0
HaveNoneCommon events a b = (l : ℕ) → IsHeldAt events a l → IsHeldAt events b l → ⊥

-- the first acquire of the trace whose held set is that of the place
pub record IsFirstAlike (events : List Event) (place first : ℕ) : Type 0 where
  pub acquire : IsAcquire events first
  pub same : HaveSameHeld events place first
  pub least : (a : ℕ) → IsAcquire events a → HaveSameHeld events place a → first ≤ a

-- the list has exactly the locks that the thread holds just before place n, from the least on
pub record AreHeldBy (events : List Event) (n thread : ℕ) (held : List ℕ) : Type 0 where
  pub order : Rises held
  pub members : (l : ℕ) → Contains held l ↔ Holds events ◌<◌ n thread l

-- the locks that a trace acquires are below their greatest number
abbrev pub AreLocksBelow : List Event → ℕ → Type 0
AreLocksBelow events bound = (a l : ℕ) → op_at events a ≡ Some (Acquire l) → l < bound

-- for each thread the locks that it holds just before place n, where the locks are below their greatest number
pub record AreHoldings (events : List Event) (n : ℕ) (held : List (Vec ℕ Global)) : Type 0 where
  pub threads : length held ≡ MAX_THREADS
  pub below : (a l : ℕ) → a < n → op_at events a ≡ Some (Acquire l) → l < MAX_LOCKS
  pub each : (t : ℕ) (v : Vec ℕ Global) → slice_get held t ≡ Some v → AreHeldBy events n t v.items

-- none of the first i locks of a list is in the other
abbrev pub IsAbsentBelow : List ℕ → ℕ → List ℕ → Type 0
IsAbsentBelow set i other = (k : ℕ) → k < i → Contains other (slice_index set k) → ⊥

-- no set stands twice in the list
abbrev pub AreAllDistinct : List (List ℕ) → Type 0
AreAllDistinct sets = (a b : ℕ) (s : List ℕ) → slice_get sets a ≡ Some s → slice_get sets b ≡ Some s → a ≡ b

-- each set keeps its number
abbrev pub KeepNumbers : List (List ℕ) → List (List ℕ) → Type 0
KeepNumbers old new = (k : ℕ) (s : List ℕ) → slice_get old k ≡ Some s → slice_get new k ≡ Some s

-- the acquire's number is that of its held set
pub record IsNumberedSet (events : List Event) (sets : List (List ℕ)) (a number : ℕ) : Type 0 where
  pub set : List ℕ
  pub at : slice_get sets number ≡ Some set
  pub held : IsHeldSet events a set

-- the first acquire before place n that has this number
pub record IsFirstWith (events : List Event) (n : ℕ) (numbers : List ℕ) (number first : ℕ) : Type 0 where
  pub before : first < n
  pub acquire : IsAcquire events first
  pub own : slice_get numbers first ≡ Some number
  pub least : (a : ℕ) → a < n → IsAcquire events a → slice_get numbers a ≡ Some number → first ≤ a

-- Distinct sets, for each of them its first acquire before place n, and for each acquire before place n the number of
-- its held set.
pub record AreHeldSets (events : List Event) (n : ℕ) (sets : List (List ℕ)) (firsts numbers : List ℕ) : Type 0 where
  pub places : length numbers ≡ length events
  pub few : length sets ≤ n
  pub known : length firsts ≡ length sets
  pub distinct : AreAllDistinct sets
  pub numbered : (a k : ℕ) → a < n → IsAcquire events a → slice_get numbers a ≡ Some k → IsNumberedSet events sets a k
  pub first : (k f : ℕ) → slice_get firsts k ≡ Some f → IsFirstWith events n numbers k f
