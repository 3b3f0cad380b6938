-- Sets of places by a cut for each thread.
use Rattle.std.specs.Prelude.{◌≡◌, ◌<◌, ◌≤◌, ◌+◌, ℕ, max, List, [], Bool, IsTrue, Some, length, slice_index, slice_index_or}
use Rattle.trace_laws.specs.Event.{Event}
use Rattle.trace_laws.specs.Trace.{thread_at, op_at, Acquires, Reads, Before, IsLastWrite, IsReleaseOf, Excludes}
use Rattle.trace_laws.specs.Closed.{ClosedSet, HoldsAll}
use Rattle.closed_fronts.specs.Cuts.{IsHeld}
use Rattle.closed_fronts.specs.Needs.{IsWriterOfRead}
use Rattle.closed_fronts.specs.Tables.{IsLatest, AreTold, IsOwnBefore, IsJoinBefore}
use Rattle.trace_laws.specs.declared.event.Op.TheVariants.{Acquire}

-- the third set is the union of the first two
pub record IsJoin (a b c : List ℕ) : Type 0 where
  pub size : length c ≡ length a
  pub each : (t : ℕ) → slice_index c t ≡ max (slice_index a t) (slice_index b t)

-- a set by cuts that is closed under program order and writers, where each cut is just behind a place of its thread
pub record IsSteady (events : List Event) (threads : ℕ) (cuts : List ℕ) : Type 0 where
  pub size : length cuts ≡ threads
  pub placed : (t k : ℕ) → slice_index cuts t ≡ k + 1 → thread_at events k ≡ Some t
  pub program : (i j : ℕ) → Before events i j → IsHeld events cuts j → IsHeld events cuts i
  pub writers : (r x w : ℕ) → Reads events r x → IsLastWrite events ◌<◌ r x w → IsHeld events cuts r → IsHeld events cuts w

-- each cut is zero: the set has no place
abbrev pub AreZero : List ℕ → Type 0
AreZero cuts = (t : ℕ) → slice_index cuts t ≡ 0

-- no cut is beyond the bound
abbrev pub AreWithin : List ℕ → ℕ → Type 0
AreWithin cuts bound = (t : ℕ) → slice_index cuts t ≤ bound

-- the set is closed under the rule of releases
abbrev pub IsMended : List Event → List ℕ → Type 0
IsMended events cuts = (a b r : ℕ) → Excludes events a b → IsReleaseOf events a r → IsHeld events cuts a → IsHeld events cuts b → IsHeld events cuts r

-- the set has the acquire a and a later acquire of its lock, and not the release r of the first
pub record IsBrokenAt (events : List Event) (cuts : List ℕ) (a r : ℕ) : Type 0 where
  pub later : ℕ
  pub excludes : Excludes events a later
  pub release : IsReleaseOf events a r
  pub first : IsHeld events cuts a
  pub second : IsHeld events cuts later
  pub missing : IsHeld events cuts r → ⊥

-- the section of the acquire a is torn: some release is missing after it
abbrev pub IsTorn : List Event → List ℕ → ℕ → Type 0
IsTorn events cuts a = (r : ℕ) × IsBrokenAt events cuts a r

-- no acquire of a thread from one number on and below another breaks the rule
abbrev pub AreUnbroken : List Event → List ℕ → ℕ → ℕ → Type 0
AreUnbroken events cuts from to = (t a r : ℕ) → from ≤ t → t < to → thread_at events a ≡ Some t → IsBrokenAt events cuts a r → ⊥

-- the least closed set that holds place p
pub record IsRow (events : List Event) (threads p : ℕ) (cuts : List ℕ) : Type 0 where
  pub steady : IsSteady events threads cuts
  pub within : AreWithin cuts (p + 1)
  pub mended : IsMended events cuts
  pub holds : IsHeld events cuts p
  pub least : (other : ℕ → Bool) → ClosedSet events other → IsTrue (other p) → (i : ℕ) → IsHeld events cuts i → IsTrue (other i)

-- place i is in every closed set that holds all places before the place in program order
abbrev pub IsImplied : List Event → ℕ → ℕ → Type 0
IsImplied events place i = (set : ℕ → Bool) → ClosedSet events set → HoldsAll (λ j. Before events j place) set → IsTrue (set i)

-- for each place its row
abbrev pub AreRows : List Event → ℕ → List (List ℕ) → Type 0
AreRows events threads rows = AreTold (IsRow events threads) rows

-- the row of a place
abbrev pub row_in : List (List ℕ) → ℕ → List ℕ
row_in rows place = slice_index_or rows place []

-- the acquire a is in the set, and the cut of its thread is this one
pub record IsAcquireBelow (events : List Event) (cuts : List ℕ) (a cut : ℕ) : Type 0 where
  pub thread : ℕ
  pub lock : ℕ
  pub acquires : Acquires events a thread lock
  pub is_cut : slice_index cuts thread ≡ cut
  pub below : a < cut

-- the set has every place before the place in program order, and the writer of the place
pub record IsReady (events : List Event) (cuts : List ℕ) (place : ℕ) : Type 0 where
  pub before : (i : ℕ) → Before events i place → IsHeld events cuts i
  pub writer : (w : ℕ) → IsWriterOfRead events place w → IsHeld events cuts w

-- places of the thread below its cut
pub record IsBelowCut (events : List Event) (t cut p : ℕ) : Type 0 where
  pub is_of : thread_at events p ≡ Some t
  pub below : p < cut

-- Place q is the latest before place p that is of its thread or forks that; place p acquires and joins nothing, and its
-- writer, if it has one, is in the set.
pub record IsLocalBehind (events : List Event) (cuts : List ℕ) (p q : ℕ) : Type 0 where
  pub source : IsLatest (IsOwnBefore events p) (Some q)
  pub unjoined : (i : ℕ) → IsJoinBefore events p i → ⊥
  pub writer : (w : ℕ) → IsWriterOfRead events p w → IsHeld events cuts w
  pub plain : (l : ℕ) → op_at events p ≡ Some (Acquire l) → ⊥
