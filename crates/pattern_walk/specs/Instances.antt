-- Instances of a pattern, by the numbers of its classes.
use Rattle.std.specs.Prelude.{◌≡◌, ◌<◌, ◌≤◌, ◌+◌, ◌-◌, ℕ, Bool, List, [], ◌∷◌, Option, Some, None, length, slice_get, IsTrue}
use Rattle.sp_base.specs.declared.limits.TheConstants.{MAX_SIZE}
use Rattle.trace_laws.specs.Event.{Event}
use Rattle.trace_laws.specs.Traces.{History}
use Rattle.trace_laws.specs.Patterns.{Class, IsPattern}
use Rattle.trace_laws.specs.Findings.{DeadlockBy, IsFoundDeadlock}
use Rattle.trace_laws.specs.Closed.{IsClosureBefore, by_closure}
use Rattle.lock_graph.specs.Classes.{Graph}
use Rattle.sp_closure.specs.Members.{PlaceSet, has, IsAtMostSections}
use Rattle.pattern_walk.specs.Cycles.{class_of, classes_of}
use Rattle.pattern_walk.specs.Listed.{AreClassNumbers}

-- the numbers are those of the classes of a pattern of at most the greatest size
pub record IsListedPattern (graph : Graph) (listed : List ℕ) : Type 0 where
  pub numbers : AreClassNumbers graph.classes listed
  pub pattern : IsPattern graph.trace.events (classes_of graph.classes listed)
  pub size : length listed ≤ MAX_SIZE

-- no instance of the pattern is a deadlock, judged by closures
abbrev pub HasNoDeadlock : List Event → List Class → Type 0
HasNoDeadlock events pattern = (picks : List ℕ) → DeadlockBy (by_closure events) pattern picks → ⊥

-- The least deadlock of a pattern with its keep, judged by closures; or none where no instance is a deadlock.
abbrev pub IsLeastDeadlock : History → List Class → Option (List ℕ × List ℕ) → Type 0
IsLeastDeadlock trace pattern None = HasNoDeadlock trace.events pattern
IsLeastDeadlock trace pattern (Some found) = IsFoundDeadlock trace.events trace.threads (by_closure trace.events) pattern (record { picks = found.0; keep = found.1 })

-- each pick is the acquire at its position in its class
pub record ArePicksAt (classes : List Class) (pattern numbers places : List ℕ) : Type 0 where
  pub positions : length numbers ≡ length pattern
  pub picks : length places ≡ length pattern
  pub each : (i n k p : ℕ) → slice_get pattern i ≡ Some n → slice_get numbers i ≡ Some k → slice_get places i ≡ Some p → slice_get (class_of classes n).acquires k ≡ Some p

-- each position is the first
abbrev pub AreFirstPositions : List ℕ → Type 0
AreFirstPositions positions = (i k : ℕ) → slice_get positions i ≡ Some k → k ≡ 0

-- the acquires from one position up to another are in the set
abbrev pub AreInSet : (ℕ → Bool) → List ℕ → ℕ → ℕ → Type 0
AreInSet set acquires from to = (k a : ℕ) → from ≤ k → k < to → slice_get acquires k ≡ Some a → IsTrue (set a)

-- the set has with each acquire of the list those that stand before it
abbrev pub IsInitial : (ℕ → Bool) → List ℕ → Type 0
IsInitial set acquires = (j k a b : ℕ) → j < k → slice_get acquires j ≡ Some a → slice_get acquires k ≡ Some b → IsTrue (set b) → IsTrue (set a)

-- each place of a list is at most the one at the same place of the other
abbrev pub AreAtMost : List ℕ → List ℕ → Type 0
AreAtMost least others = (i p o : ℕ) → slice_get least i ≡ Some p → slice_get others i ≡ Some o → p ≤ o

-- the cursor has the closure of the places before the picks, and they are at most those of each deadlock
pub record IsUnderway (graph : Graph) (pattern positions picks : List ℕ) (cursor : PlaceSet) : Type 0 where
  pub trace : cursor.trace ≡ graph.trace
  pub at : ArePicksAt graph.classes pattern positions picks
  pub closure : IsClosureBefore graph.trace.events picks (has cursor.members)
  pub least : (others : List ℕ) → DeadlockBy (by_closure graph.trace.events) (classes_of graph.classes pattern) others → AreAtMost picks others

-- how far the picks together are from the end
abbrev pub rest_of : ℕ → List ℕ → ℕ
rest_of end [] = 0
rest_of end (p ∷ ps) = (end - p) + rest_of end ps

-- the acquires of classes together
abbrev pub acquires_of : List Class → ℕ
acquires_of [] = 0
acquires_of (c ∷ cs) = length c.acquires + acquires_of cs

-- how many acquires the positions have passed or stand at
abbrev pub reached_of : List ℕ → ℕ
reached_of [] = 0
reached_of (k ∷ ks) = (k + 1) + reached_of ks

-- The steps of a check of a pattern, by the counter before and after: at most the sections that were asked, of which there
-- are not more than the trace has, and the acquires of the pattern's classes together.
pub record AreFewSteps (events : List Event) (pattern : List Class) (old new : ℕ) : Type 0 where
  pub asked : ℕ
  pub few : IsAtMostSections events asked
  pub steps : new ≤ old + asked + acquires_of pattern
