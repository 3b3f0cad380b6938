-- Sets of places of a trace.
use Rattle.std.specs.Prelude.{ℕ, ◌≤◌, List, Bool}
use Rattle.trace_laws.specs.Event.{Event}
use Rattle.trace_laws.specs.Traces.{History}
use Rattle.trace_laws.specs.Findings.{HasCount}
use Rattle.closed_fronts.specs.Tables.{IsAcquire}
pub use Rattle.closed_fronts.specs.Members.{has, IsEmpty, IsMemberOf, AreCounts}

-- a trace, a set of its places as a flag for each, and how often a section was asked for it
pub record PlaceSet : Type 0 where
  pub trace : History
  pub members : List Bool
  pub asked : ℕ

-- a number is at most that of the sections of a trace, which are as many as its acquires
abbrev pub IsAtMostSections : List Event → ℕ → Type 0
IsAtMostSections events number = (sections : ℕ) → HasCount (IsAcquire events) sections → number ≤ sections
