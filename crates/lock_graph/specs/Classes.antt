-- The classes of a trace, and which can follow which in a cycle (PLDI 2023, abstract acquires).
use Rattle.std.specs.Prelude.{◌<◌, ◌↔◌, ℕ, List, Contains, AllPairs}
use Rattle.trace_laws.specs.Event.{Event}
use Rattle.trace_laws.specs.Traces.{History}
use Rattle.trace_laws.specs.Patterns.{Class, IsClass, AreApart, first_place}
use Rattle.trace_index.specs.HeldSets.{IsAcquire}

-- a trace and a list of classes
pub record Graph : Type 0 where
  pub trace : History
  pub classes : List Class

-- the place is an acquire of a class of the list
pub record IsInClass (classes : List Class) (place : ℕ) : Type 0 where
  pub class : Class
  pub listed : Contains classes class
  pub acquires : Contains class.acquires place

-- The list has exactly the classes of the trace, in the order of their first places, and each acquire of the trace is in
-- one of them.
pub record AreClasses (events : List Event) (classes : List Class) : Type 0 where
  pub order : AllPairs (λ a b. first_place a < first_place b) classes
  pub members : (c : Class) → Contains classes c ↔ IsClass events c
  pub all : (a : ℕ) → IsAcquire events a → IsInClass classes a

-- the first class is followed by the second in a cycle: the second holds the lock of the first, and they are apart
pub record IsFollowedBy (a b : Class) : Type 0 where
  pub apart : AreApart a b
  pub holds : Contains b.held a.lock

-- the locks of classes and of their held sets are below a number
pub record HaveLocksBelow (classes : List Class) (bound : ℕ) : Type 0 where
  pub lock : (c : Class) → Contains classes c → c.lock < bound
  pub held : (c : Class) (l : ℕ) → Contains classes c → Contains c.held l → l < bound
