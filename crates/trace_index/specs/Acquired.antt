-- The sections of a lock by a thread, in the order of a trace.
use Rattle.std.specs.Prelude.{◌≡◌, ◌<◌, ◌↔◌, ◌*◌, ◌+◌, ◌/◌, ◌%◌, ℕ, List, Vec, Option, Some, length, slice_get, Contains, IfSome}
use Rattle.std.specs.declared.alloc.Global.{Global}
use Rattle.std.specs.Option.{option_map}
use Rattle.trace_laws.specs.Event.{Event}
use Rattle.trace_laws.specs.Trace.{Acquires, IsReleaseOf}
use Rattle.trace_laws.specs.Reordering.{Rises}
use Rattle.trace_index.specs.declared.section.Section.{Section}

-- the list has exactly the acquires of the lock by the thread, in the order of the trace
pub record AreAcquires (events : List Event) (lock thread : ℕ) (places : List ℕ) : Type 0 where
  pub order : Rises places
  pub members : (p : ℕ) → Contains places p ↔ Acquires events p thread lock

-- The section of that number, from 0, of the lock by the thread, in the order of the trace: the acquire of that number,
-- and its release where there is one. None exactly where there are at most so many.
pub record IsSectionAt (events : List Event) (lock thread number : ℕ) (section : Option Section) : Type 0 where
  pub acquires : List ℕ
  pub all : AreAcquires events lock thread acquires
  pub acquire : option_map (λ s. s.acquire) section ≡ slice_get acquires number
  pub release : IfSome section (λ s. (r : ℕ) → (s.release ≡ Some r) ↔ IsReleaseOf events s.acquire r)

-- the number of a lock and a thread, where there are so many threads
abbrev pub pair_of : ℕ → ℕ → ℕ → ℕ
pair_of threads lock thread = lock * threads + thread

-- place p is an acquire of the lock by the thread whose number is x, where there are so many threads
abbrev pub IsAcquireOfPair : List Event → ℕ → ℕ → ℕ → Type 0
IsAcquireOfPair events threads x p = Acquires events p (x % threads) (x / threads)

-- The section of an acquire has that number, from 0, among the sections of its lock by its thread: the acquire stands there
-- in the list of their acquires.
pub record IsSectionNumber (events : List Event) (a number : ℕ) : Type 0 where
  pub thread : ℕ
  pub lock : ℕ
  pub acquires : List ℕ
  pub all : AreAcquires events lock thread acquires
  pub place : slice_get acquires number ≡ Some a

-- in the list of the number x the place stands at position k
pub record StandsAt (lists : List (Vec ℕ Global)) (x k place : ℕ) : Type 0 where
  pub list : Vec ℕ Global
  pub at : slice_get lists x ≡ Some list
  pub entry : slice_get list.items k ≡ Some place

-- for each acquire before place n its position in the list of its lock and its thread
pub record ArePositions (events : List Event) (threads n : ℕ) (lists : List (Vec ℕ Global)) (positions : List ℕ) : Type 0 where
  pub places : length positions ≡ length events
  pub each : (a x k : ℕ) → a < n → IsAcquireOfPair events threads x a → slice_get positions a ≡ Some k → StandsAt lists x k a
