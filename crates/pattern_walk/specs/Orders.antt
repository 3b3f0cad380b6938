-- For each lock the classes that hold it, and the locks that are held where it is taken, as far as cycles have them.
use Rattle.std.specs.Prelude.{◌≡◌, ◌<◌, ◌++◌, ◌∷◌, [], ℕ, List, Vec, Some, length, slice_get, Contains}
use Rattle.std.specs.declared.alloc.Global.{Global}
use Rattle.trace_laws.specs.Reordering.{Rises}
use Rattle.trace_laws.specs.Patterns.{Class}
use Rattle.lock_graph.specs.Classes.{HaveLocksBelow}
use Rattle.pattern_walk.specs.Cycles.{class_of}
use Rattle.pattern_walk.specs.Linked.{StandsInCycle}

-- the class comes last in the list of each of these locks, and all other lists stay
pub record AddsClass (old : List (Vec ℕ Global)) (locks : List ℕ) (class : ℕ) (new : List (Vec ℕ Global)) : Type 0 where
  pub size : length new ≡ length old
  pub added : (l : ℕ) (v w : Vec ℕ Global) → Contains locks l → slice_get old l ≡ Some v → slice_get new l ≡ Some w → w.items ≡ v.items ++ class ∷ []
  pub same : (l : ℕ) → (Contains locks l → ⊥) → slice_get new l ≡ slice_get old l

-- the class comes last in the list of each of the first k of these locks, and all other lists stay
pub record AddsClassBelow (old : List (Vec ℕ Global)) (locks : List ℕ) (class k : ℕ) (new : List (Vec ℕ Global)) : Type 0 where
  pub size : length new ≡ length old
  pub added : (j l : ℕ) (v w : Vec ℕ Global) → j < k → slice_get locks j ≡ Some l → slice_get old l ≡ Some v → slice_get new l ≡ Some w → w.items ≡ v.items ++ class ∷ []
  pub same : (l : ℕ) → ((j : ℕ) → j < k → slice_get locks j ≡ Some l → ⊥) → slice_get new l ≡ slice_get old l

-- the list has classes below n that hold the lock, in the order of their numbers, and all of these that stand in a cycle
pub record AreHoldersOf (classes : List Class) (n lock : ℕ) (holders : List ℕ) : Type 0 where
  pub order : Rises holders
  pub only : (c : ℕ) → Contains holders c → (c < n) × Contains (class_of classes c).held lock
  pub all : (c : ℕ) → c < n → StandsInCycle classes c → Contains (class_of classes c).held lock → Contains holders c

-- for each lock of the classes those below n that hold it
pub record AreHolders (classes : List Class) (n : ℕ) (holders : List (Vec ℕ Global)) : Type 0 where
  pub locks : HaveLocksBelow classes (length holders)
  pub each : (l : ℕ) (v : Vec ℕ Global) → slice_get holders l ≡ Some v → AreHoldersOf classes n l v.items

-- for each lock of the classes the locks that some class below n holds which takes it and stands in a cycle, and maybe others
pub record AreBefore (classes : List Class) (n : ℕ) (before : List (Vec ℕ Global)) : Type 0 where
  pub locks : HaveLocksBelow classes (length before)
  pub all : (c h : ℕ) (v : Vec ℕ Global) → c < n → StandsInCycle classes c → Contains (class_of classes c).held h → slice_get before (class_of classes c).lock ≡ Some v → Contains v.items h
  pub below : (l h : ℕ) (v : Vec ℕ Global) → slice_get before l ≡ Some v → Contains v.items h → h < length before
