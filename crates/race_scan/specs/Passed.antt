-- How far the groups of a variable are passed.
use Rattle.std.specs.Prelude.{◌≡◌, ◌<◌, ◌≤◌, ◌+◌, ◌-◌, ℕ, List, ◌∷◌, Some, length, slice_get}
use Rattle.trace_laws.specs.Event.{Event}
use Rattle.trace_laws.specs.declared.event.Op.{Op}
use Rattle.trace_laws.specs.Trace.{thread_at, op_at}
use Rattle.trace_laws.specs.Reordering.{Conflict}
use Rattle.trace_laws.specs.Findings.{Races}
use Rattle.race_scan.specs.declared.groups.Group.{Group}

-- the place races neither with the later place nor with one behind it of the same thread and operation
abbrev pub IsOut : List Event → ℕ → ℕ → Type 0
IsOut events later e = (l : ℕ) → later ≤ l → thread_at events l ≡ thread_at events later → op_at events l ≡ op_at events later → Races events e l → ⊥

-- for each group a number of its first places, which are out
pub record ArePassed (events : List Event) (later : ℕ) (groups : List Group) (passed : List ℕ) : Type 0 where
  pub size : length passed ≡ length groups
  pub out : (i n k e : ℕ) (g : Group) → slice_get groups i ≡ Some g → slice_get passed i ≡ Some n → k < n → slice_get g.places.items k ≡ Some e → IsOut events later e

-- the first place of group i that is not passed
pub record IsHead (groups : List Group) (passed : List ℕ) (i e : ℕ) : Type 0 where
  pub group : Group
  pub at : slice_get groups i ≡ Some group
  pub next : ℕ
  pub is_next : slice_get passed i ≡ Some next
  pub is : slice_get group.places.items next ≡ Some e

-- of each group the first place that is not passed conflicts with the later place, where it stands before it
abbrev pub AreReady : List Event → ℕ → List Group → List ℕ → Type 0
AreReady events later groups passed = (i e : ℕ) → IsHead groups passed i e → e < later → Conflict events e later

-- place e of group i is the earliest that is not passed, and stands before the later place
pub record IsEarliest (groups : List Group) (passed : List ℕ) (later i e : ℕ) : Type 0 where
  pub head : IsHead groups passed i e
  pub before : e < later
  pub least : (j d : ℕ) → IsHead groups passed j d → e ≤ d

-- how many places of the groups are not passed
abbrev pub left_over : List Group → List ℕ → ℕ
left_over (g ∷ groups) (n ∷ passed) = (length g.places.items - n) + left_over groups passed
left_over _ _ = 0

-- so far for each place from one on that is of its thread and has that operation
abbrev pub ArePassedFrom : List Event → Op → ℕ → List Group → List ℕ → Type 0
ArePassedFrom events op later groups passed = (l : ℕ) → later ≤ l → thread_at events l ≡ thread_at events later → op_at events l ≡ Some op → ArePassed events l groups passed
