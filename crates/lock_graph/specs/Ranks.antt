-- Ranks of locks, which fall along the lock graph.
use Rattle.std.specs.Prelude.{◌≤◌, ℕ, List, length, slice_index, Contains}
use Rattle.trace_laws.specs.Patterns.{Class}
use Rattle.lock_graph.specs.Classes.{HaveLocksBelow}

-- no class takes a lock of a greater rank than one that it holds
abbrev pub DoRanksFall : List Class → List ℕ → Type 0
DoRanksFall classes ranks = (c : Class) (h : ℕ) → Contains classes c → Contains c.held h → slice_index ranks c.lock ≤ slice_index ranks h

-- each lock of the classes has a rank, and no class takes a lock of a greater one than one that it holds
pub record AreRanks (classes : List Class) (ranks : List ℕ) : Type 0 where
  pub locks : HaveLocksBelow classes (length ranks)
  pub fall : DoRanksFall classes ranks
