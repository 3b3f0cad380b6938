-- In how many steps the first class of a cycle is reached.
use Rattle.std.specs.Prelude.{◌≡◌, ◌<◌, ◌≤◌, ◌+◌, ℕ, List, Vec, Some, length, slice_get, slice_index, Contains}
use Rattle.std.specs.declared.alloc.Global.{Global}
use Rattle.trace_laws.specs.Patterns.{Class}
use Rattle.pattern_walk.specs.Cycles.{class_of, IsCycle}

-- no number is greater than before
pub record IsLowered (old new : List ℕ) : Type 0 where
  pub size : length new ≡ length old
  pub each : (l : ℕ) → slice_index new l ≤ slice_index old l

-- each of the first k locks has come down to a number, and no number has risen
pub record IsReachedBelow (old locks : List ℕ) (to k : ℕ) (new : List ℕ) : Type 0 where
  pub lowered : IsLowered old new
  pub reached : (j l : ℕ) → j < k → slice_get locks j ≡ Some l → slice_index new l ≤ to

-- What lies before each of the first k locks that had at most so many steps has at most one more, and no number has risen.
pub record IsSpreadBelow (old : List ℕ) (before : List (Vec ℕ Global)) (step k : ℕ) (new : List ℕ) : Type 0 where
  pub lowered : IsLowered old new
  pub reached : (l h : ℕ) (v : Vec ℕ Global) → l < k → slice_get before l ≡ Some v → slice_index old l ≤ step → Contains v.items h → slice_index new h ≤ step + 1

-- In each cycle of the size that begins with the class, the lock of each further class from which so many steps lead back
-- has at most that many, where they are at most the number given.
abbrev pub IsNearWithin : List Class → ℕ → ℕ → ℕ → List ℕ → Type 0
IsNearWithin classes start size steps near = (q : List ℕ) (i n : ℕ) → IsCycle classes q → length q ≡ size → slice_get q 0 ≡ Some start → 0 < i → size ≤ i + steps → slice_get q i ≡ Some n → slice_index near (class_of classes n).lock + i ≤ size

-- in each cycle of the size that begins with the class, the lock of each further class has at most as many steps as lead
-- back from it
abbrev pub IsNear : List Class → ℕ → ℕ → List ℕ → Type 0
IsNear classes start size near = IsNearWithin classes start size size near
