-- What a set of the places before two places keeps.
use Rattle.std.specs.Prelude.{◌≡◌, ◌<◌, [], ◌∷◌, length, Option, Some}
use Rattle.trace_laws.specs.Closed.{IsClosureBefore}
use Rattle.sp_closure.specs.Members.{PlaceSet, has}
use Rattle.race_scan.specs.declared.pair_set.Pair.{Pair}
use Rattle.race_scan.specs.declared.pair_set.PairSet.TheInside.{Inside}

-- the set is that of its cursor
abbrev pub set_in : Inside → PlaceSet
set_in s = s.cursor

-- the set is the least closed one that has all places before the two
pub record IsOfPair (set : PlaceSet) (pair : Pair) : Type 0 where
  pub first : pair.first < length set.trace.events
  pub second : pair.second < length set.trace.events
  pub closure : IsClosureBefore set.trace.events (pair.first ∷ pair.second ∷ []) (has set.members)

-- where there is a last pair, the set is that of it
abbrev pub IsOfLast : PlaceSet → Option Pair → Type 0
IsOfLast set last = (pair : Pair) → last ≡ Some pair → IsOfPair set pair

-- the cursor is over the trace of the index, and its set is that of the last pair
pub record IsKnown (s : Inside) : Type 0 where
  pub same : s.cursor.trace ≡ s.index.now
  pub last : IsOfLast s.cursor s.last
