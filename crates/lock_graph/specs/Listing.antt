-- The classes of the acquires before place n.
use Rattle.std.specs.Prelude.{◌≡◌, ◌≢◌, ◌<◌, ◌≤◌, ◌↔◌, ℕ, List, [], length, Some, slice_get, Contains}
use Rattle.trace_laws.specs.Event.{Event}
use Rattle.trace_laws.specs.Reordering.{Rises}
use Rattle.trace_laws.specs.Patterns.{Class, IsOfClass, first_place}
use Rattle.trace_index.specs.HeldSets.{IsAcquire, IsFirstAlike}
use Rattle.lock_graph.specs.declared.entry.Entry.{Entry}
use Rattle.lock_graph.specs.declared.entry.Key.{Key}

-- the class of an entry
abbrev pub class_in : Entry → Class
class_in e = record { thread = e.thread; lock = e.lock; held = e.held.now; acquires = e.acquires.items }

-- a class with its acquires before place n, of which there are some
pub record IsClassBefore (events : List Event) (n : ℕ) (class : Class) : Type 0 where
  pub some : class.acquires ≢ []
  pub held : Rises class.held
  pub order : Rises class.acquires
  pub members : (a : ℕ) → Contains class.acquires a ↔ ((a < n) × IsOfClass events class a)

-- the key has the thread and the lock of the class, and the first acquire with its held set
pub record IsKeyOf (events : List Event) (class : Class) (key : Key) : Type 0 where
  pub thread : key.thread ≡ class.thread
  pub lock : key.lock ≡ class.lock
  pub alike : IsFirstAlike events (first_place class) key.alike

-- no key stands twice in the list
abbrev pub AreDistinctKeys : List Key → Type 0
AreDistinctKeys keys = (i j : ℕ) (k : Key) → slice_get keys i ≡ Some k → slice_get keys j ≡ Some k → i ≡ j

-- the place is an acquire of an entry
pub record IsNotedIn (entries : List Entry) (place : ℕ) : Type 0 where
  pub number : ℕ
  pub entry : Entry
  pub at : slice_get entries number ≡ Some entry
  pub acquires : Contains entry.acquires.items place

-- The entries are the classes of the acquires before place n, in the order of their first places, each with its key, and
-- each of these acquires is in one of them.
pub record AreNoted (events : List Event) (n : ℕ) (keys : List Key) (entries : List Entry) : Type 0 where
  pub few : length entries ≤ n
  pub known : length keys ≡ length entries
  pub distinct : AreDistinctKeys keys
  pub each : (i : ℕ) (e : Entry) → slice_get entries i ≡ Some e → IsClassBefore events n (class_in e)
  pub keyed : (i : ℕ) (e : Entry) (k : Key) → slice_get entries i ≡ Some e → slice_get keys i ≡ Some k → IsKeyOf events (class_in e) k
  pub order : (i j : ℕ) (e f : Entry) → i < j → slice_get entries i ≡ Some e → slice_get entries j ≡ Some f → first_place (class_in e) < first_place (class_in f)
  pub all : (a : ℕ) → a < n → IsAcquire events a → IsNotedIn entries a
