-- The patterns of a trace, by the numbers of their classes.
use Rattle.std.specs.Prelude.{◌<◌, ◌≤◌, ℕ, List, length, map, Contains, AllPairs}
use Rattle.sp_base.specs.declared.limits.TheConstants.{MAX_PATTERNS}
use Rattle.trace_laws.specs.Event.{Event}
use Rattle.trace_laws.specs.Patterns.{Class, IsPattern, ComesBefore, ArePatterns}
use Rattle.lock_graph.specs.Classes.{Graph}
use Rattle.pattern_walk.specs.Cycles.{classes_of}

-- the numbers are those of classes
abbrev pub AreClassNumbers : List Class → List ℕ → Type 0
AreClassNumbers classes numbers = (n : ℕ) → Contains numbers n → n < length classes

-- the list has exactly the patterns of the trace of at most that size, in their order, by the numbers of their classes
pub record AreListedPatterns (graph : Graph) (size : ℕ) (listed : List (List ℕ)) : Type 0 where
  pub numbers : (p : List ℕ) → Contains listed p → AreClassNumbers graph.classes p
  pub patterns : ArePatterns graph.trace.events size (map (classes_of graph.classes) listed)

-- there are more than `MAX_PATTERNS` patterns of at most that size: so many stand in a list in their order
pub record HasMorePatterns (events : List Event) (size : ℕ) : Type 0 where
  pub some : List (List Class)
  pub order : AllPairs ComesBefore some
  pub patterns : (p : List Class) → Contains some p → IsPattern events p
  pub sizes : (p : List Class) → Contains some p → length p ≤ size
  pub many : MAX_PATTERNS < length some
