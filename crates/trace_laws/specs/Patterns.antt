-- Abstract deadlock patterns, their instances and deadlocks (PLDI 2023, sync-preserving deadlocks).
use Rattle.std.specs.Prelude.{◌≡◌, ◌≢◌, ◌<◌, ◌≤◌, ◌+◌, ◌↔◌, ◌==◌, ◌⊎◌, ℕ, List, [], length, map, Some, slice_get, slice_index, Contains, All, AllPairs, cond}
use Rattle.std.specs.List.{AllZip}
use Rattle.trace_laws.specs.Event.{Event}
use Rattle.trace_laws.specs.Trace.{Acquires, Holds}
use Rattle.trace_laws.specs.Reordering.{Rises}

-- An abstract acquire: a thread, a lock and a held set, with the acquires that have them.
-- The held set is its locks from the least on, and the acquires are in the order of the trace.
pub record Class : Type 0 where
  pub thread : ℕ
  pub lock : ℕ
  pub held : List ℕ
  pub acquires : List ℕ

-- the acquire at place a has the thread and the lock of the class, and its held set: what its thread holds just before it
pub record IsOfClass (trace : List Event) (class : Class) (a : ℕ) : Type 0 where
  pub acquires : Acquires trace a class.thread class.lock
  pub held : (l : ℕ) → Contains class.held l ↔ Holds trace ◌<◌ a class.thread l

-- a class of the trace, which at least one acquire has
pub record IsClass (trace : List Event) (class : Class) : Type 0 where
  pub some : class.acquires ≢ []
  pub held : Rises class.held
  pub order : Rises class.acquires
  pub members : (a : ℕ) → Contains class.acquires a ↔ IsOfClass trace class a

-- the first place of a class
abbrev pub first_place : Class → ℕ
first_place class = slice_index class.acquires 0

-- two classes of one pattern have different threads and different locks, and no lock in both held sets
pub record AreApart (a b : Class) : Type 0 where
  pub threads : a.thread ≢ b.thread
  pub locks : a.lock ≢ b.lock
  pub held : (l : ℕ) → Contains a.held l → Contains b.held l → ⊥

-- the position after i in a cycle of so many, in which the first follows the last
abbrev pub next_in : ℕ → ℕ → ℕ
next_in size i = cond (i + 1 == size) 0 (i + 1)

-- An abstract deadlock pattern: a cyclic list of classes that are apart, the lock of each in the held set
-- of the next, written with the class of the least first place first.
pub record IsPattern (trace : List Event) (pattern : List Class) : Type 0 where
  pub size : 2 ≤ length pattern
  pub classes : All (IsClass trace) pattern
  pub apart : AllPairs AreApart pattern
  pub cycle : (i : ℕ) (a b : Class) → slice_get pattern i ≡ Some a → slice_get pattern (next_in (length pattern) i) ≡ Some b → Contains b.held a.lock
  pub first : (a : Class) → slice_get pattern 0 ≡ Some a → All (λ b. first_place a ≤ first_place b) pattern

-- Patterns are ordered by size, then by the first places of their classes from left to right.
abbrev pub ComesBefore : List Class → List Class → Type 0
ComesBefore p q = (length p < length q) ⊎ ((length p ≡ length q) × ((i : ℕ) × (slice_index (map first_place p) i < slice_index (map first_place q) i) × ((k : ℕ) → k < i → slice_index (map first_place p) k ≡ slice_index (map first_place q) k)))

-- the list has exactly the patterns of at most that size, in their order
pub record ArePatterns (trace : List Event) (size : ℕ) (patterns : List (List Class)) : Type 0 where
  pub order : AllPairs ComesBefore patterns
  pub members : (p : List Class) → Contains patterns p ↔ (IsPattern trace p × (length p ≤ size))

-- an instance of a pattern picks one acquire from each class
abbrev pub IsInstance : List Class → List ℕ → Type 0
IsInstance pattern picks = AllZip (λ class a. Contains class.acquires a) pattern picks
