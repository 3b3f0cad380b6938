-- The accesses of a variable, by thread.
use Rattle.std.specs.Prelude.{◌≡◌, ◌<◌, ◌≤◌, ℕ, List, [], ◌∷◌, ◌++◌, Some, slice_get, slice_set}
use Rattle.trace_laws.specs.Event.{Event}
use Rattle.trace_laws.specs.Trace.{thread_at}
use Rattle.trace_laws.specs.Reordering.{Rises, Accesses}
use Rattle.race_scan.specs.declared.groups.Group.{Group}

-- places of one thread, in the order of the trace
pub record IsGroup (events : List Event) (g : Group) : Type 0 where
  pub order : Rises g.places.items
  pub of_thread : (k e : ℕ) → slice_get g.places.items k ≡ Some e → thread_at events e ≡ Some g.thread

-- each group has places of one thread
abbrev pub AreOfThreads : List Event → List Group → Type 0
AreOfThreads events groups = (i : ℕ) (g : Group) → slice_get groups i ≡ Some g → IsGroup events g

-- the place is in some group
pub record HasPlace (groups : List Group) (e : ℕ) : Type 0 where
  pub group : ℕ
  pub member : Group
  pub at : slice_get groups group ≡ Some member
  pub index : ℕ
  pub is : slice_get member.places.items index ≡ Some e

-- the accesses of variable x, by thread
pub record AreGroups (events : List Event) (x : ℕ) (groups : List Group) : Type 0 where
  pub each : AreOfThreads events groups
  pub all : (e : ℕ) → Accesses events e x → HasPlace groups e

-- the first n of the places, by thread, where the rest are later
pub record AreGroupsUpTo (events : List Event) (places : List ℕ) (n : ℕ) (groups : List Group) : Type 0 where
  pub each : AreOfThreads events groups
  pub below : (e j p : ℕ) → HasPlace groups e → n ≤ j → slice_get places j ≡ Some p → e < p
  pub all : (j p : ℕ) → j < n → slice_get places j ≡ Some p → HasPlace groups p

-- the group got the place as its last
pub record IsLonger (old : Group) (place : ℕ) (new : Group) : Type 0 where
  pub thread : new.thread ≡ old.thread
  pub places : new.places.items ≡ old.places.items ++ place ∷ []

-- a group of the thread got the place, or there is a new group of it
pub data IsNoted (old : List Group) (thread place : ℕ) (new : List Group) : Type 0 where
  longer : (i : ℕ) (g h : Group) → slice_get old i ≡ Some g → g.thread ≡ thread → IsLonger g place h → new ≡ slice_set old i h → IsNoted old thread place new
  further : (h : Group) → h.thread ≡ thread → h.places.items ≡ place ∷ [] → new ≡ old ++ h ∷ [] → IsNoted old thread place new
