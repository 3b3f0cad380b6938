-- What is found in a trace: its races and its deadlocks, each with its keep.
use Rattle.std.specs.Prelude.{◌≡◌, ◌<◌, ◌≤◌, ◌↔◌, ℕ, List, [], ◌∷◌, length, slice_index, map, Some, Contains, All, AllPairs}
use Rattle.std.specs.List.{AllZip}
use Rattle.trace_laws.specs.Event.{Event}
use Rattle.trace_laws.specs.Trace.{thread_at}
use Rattle.trace_laws.specs.Reordering.{Rises, Conflict, CanLeave, IsNeeded}
use Rattle.trace_laws.specs.Patterns.{Class, IsPattern, IsInstance, ComesBefore}

-- a place, the earlier place that it races with, and the keep
pub record FoundRace : Type 0 where
  pub later : ℕ
  pub earlier : ℕ
  pub keep : List ℕ

-- the picks of a deadlock, and the keep
pub record FoundDeadlock : Type 0 where
  pub picks : List ℕ
  pub keep : List ℕ

-- what is found: the races, and the deadlocks
pub record Found : Type 0 where
  pub races : List FoundRace
  pub deadlocks : List FoundDeadlock

-- so many places have the property: they are the length of their list in order
pub record HasCount (P : ℕ → Type 0) (n : ℕ) : Type 0 where
  pub places : List ℕ
  pub order : Rises places
  pub members : (p : ℕ) → Contains places p ↔ P p
  pub size : length places ≡ n

-- A judge says which places can be left enabled together, and which places that needs.
pub record Judge : Type 1 where
  pub enabled : List ℕ → Type 0
  pub needed : List ℕ → ℕ → Type 0

-- judged by all sync-preserving correct reorderings
abbrev pub by_reorderings : List Event → Judge
by_reorderings trace = record { enabled = CanLeave trace; needed = IsNeeded trace }

-- the keep of picks: for each thread the number of its places that the picks need
pub record IsKeep (trace : List Event) (threads : ℕ) (judge : Judge) (picks keep : List ℕ) : Type 0 where
  pub size : length keep ≡ threads
  pub counts : (t : ℕ) → t < threads → HasCount (λ p. (thread_at trace p ≡ Some t) × judge.needed picks p) (slice_index keep t)

-- two conflicting places that can be left enabled together
pub record RaceBy (trace : List Event) (judge : Judge) (e1 e2 : ℕ) : Type 0 where
  pub conflict : Conflict trace e1 e2
  pub enabled : judge.enabled (e1 ∷ e2 ∷ [])

-- an instance of a pattern whose picks can be left enabled together
pub record DeadlockBy (judge : Judge) (pattern : List Class) (picks : List ℕ) : Type 0 where
  pub picked : IsInstance pattern picks
  pub enabled : judge.enabled picks

-- two conflicting places that some sync-preserving correct reordering leaves both enabled
abbrev pub Races : List Event → ℕ → ℕ → Type 0
Races trace e1 e2 = RaceBy trace (by_reorderings trace) e1 e2

-- an instance of a pattern whose picks some sync-preserving correct reordering leaves all enabled
abbrev pub Deadlock : List Event → List Class → List ℕ → Type 0
Deadlock trace pattern picks = DeadlockBy (by_reorderings trace) pattern picks

-- a place with the earliest place that it races with
pub record IsFoundRace (trace : List Event) (threads : ℕ) (judge : Judge) (found : FoundRace) : Type 0 where
  pub order : found.earlier < found.later
  pub race : RaceBy trace judge found.earlier found.later
  pub earliest : (e : ℕ) → e < found.earlier → RaceBy trace judge e found.later → ⊥
  pub keep : IsKeep trace threads judge (found.earlier ∷ found.later ∷ []) found.keep

-- the least deadlock of a pattern: in each position its pick is at most that of every other
pub record IsFoundDeadlock (trace : List Event) (threads : ℕ) (judge : Judge) (pattern : List Class) (found : FoundDeadlock) : Type 0 where
  pub deadlock : DeadlockBy judge pattern found.picks
  pub least : (picks : List ℕ) → DeadlockBy judge pattern picks → AllZip ◌≤◌ found.picks picks
  pub keep : IsKeep trace threads judge found.picks found.keep

-- Exactly the places that race with an earlier one, in the order of the trace, each with the earliest; and
-- exactly the patterns up to the size that have a deadlock, in their order, each with the least.
pub record AreFindings (trace : List Event) (threads size : ℕ) (judge : Judge) (found : Found) : Type 0 where
  pub race_order : AllPairs (λ a b. a.later < b.later) found.races
  pub races : All (IsFoundRace trace threads judge) found.races
  pub all_races : (e1 e2 : ℕ) → e1 < e2 → RaceBy trace judge e1 e2 → Contains (map (λ r. r.later) found.races) e2
  pub patterns : List (List Class)
  pub pattern_order : AllPairs ComesBefore patterns
  pub members : (p : List Class) → Contains patterns p ↔ (IsPattern trace p × (length p ≤ size) × ((picks : List ℕ) × DeadlockBy judge p picks))
  pub deadlocks : AllZip (IsFoundDeadlock trace threads judge) patterns found.deadlocks

-- what is found in a trace by a judge determines its list
abbrev pub FindingsAreDetermined : (List Event → Judge) → Type 0
FindingsAreDetermined judged_by = (trace : List Event) (threads size : ℕ) (one other : Found) → AreFindings trace threads size (judged_by trace) one → AreFindings trace threads size (judged_by trace) other → one ≡ other
