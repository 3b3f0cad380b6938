-- Which classes can stand in a cycle.
use Rattle.std.specs.Prelude.{◌≡◌, ◌<◌, ℕ, List, Bool, IsTrue, length, slice_index, Contains}
use Rattle.trace_laws.specs.Patterns.{Class}
use Rattle.sp_closure.specs.Members.{has}
use Rattle.pattern_walk.specs.Cycles.{IsCycle}

-- the class stands in a cycle
pub record StandsInCycle (classes : List Class) (n : ℕ) : Type 0 where
  pub cycle : List ℕ
  pub is : IsCycle classes cycle
  pub member : Contains cycle n

-- the class holds a lock of the rank of its own
pub record HasLink (ranks : List ℕ) (class : Class) : Type 0 where
  pub lock : ℕ
  pub held : Contains class.held lock
  pub same : slice_index ranks class.lock ≡ slice_index ranks lock

-- a flag for each of the first k classes, which is set at those that stand in a cycle
pub record AreLinks (classes : List Class) (k : ℕ) (links : List Bool) : Type 0 where
  pub size : length links ≡ k
  pub cycles : (n : ℕ) → n < k → StandsInCycle classes n → IsTrue (has links n)
