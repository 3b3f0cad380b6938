-- Races that are listed.
use Rattle.std.specs.Prelude.{◌≡◌, ◌<◌, ◌≤◌, ◌⊎◌, ℕ, List, Some, slice_get, Contains}
use Rattle.std.specs.List.Sorted.{IsNonDecreasingBy}
use Rattle.trace_laws.specs.Event.{Event}
use Rattle.trace_laws.specs.Trace.{thread_at, op_at}
use Rattle.trace_laws.specs.Reordering.{Rises, Accesses}
use Rattle.trace_laws.specs.Findings.{Races}
use Rattle.trace_laws.specs.declared.event.Op.{Op}
use Rattle.trace_laws.specs.declared.finding.Race.{Race}
use Rattle.race_scan.specs.Partners.{IsPartner}
use Rattle.race_scan.specs.Scans.{IsInRange}

-- a race of the later place is listed
pub record HasRace (races : List Race) (later : ℕ) : Type 0 where
  pub race : Race
  pub listed : Contains races race
  pub is : race.later ≡ later

-- where the later place races with an earlier one, it is listed
abbrev pub IsCovered : List Event → List Race → ℕ → Type 0
IsCovered events races later = (e : ℕ) → e < later → Races events e later → HasRace races later

-- a race of a place of which P holds, with the earliest partner
pub record IsRaceWhere (events : List Event) (P : ℕ → Type 0) (r : Race) : Type 0 where
  pub of : P r.later
  pub partner : IsPartner events r.later r.earlier

-- The races of those places are added of which P holds.
pub record AddsRaces (events : List Event) (P : ℕ → Type 0) (old new : List Race) : Type 0 where
  pub right : (r : Race) → Contains new r → Contains old r ⊎ IsRaceWhere events P r
  pub keeps : (r : Race) → Contains old r → Contains new r
  pub covers : (later : ℕ) → P later → IsCovered events new later

-- exactly the races on variables of the range, in the order of the later places
pub record AreAllRaces (events : List Event) (from to : ℕ) (races : List Race) : Type 0 where
  pub right : (r : Race) → Contains races r → IsRaceWhere events (IsInRange events from to) r
  pub all : (later : ℕ) → IsInRange events from to later → IsCovered events races later
  pub order : IsNonDecreasingBy (λ (r : Race). r.later) races

-- the race is the first whose later place is at or behind the place
pub record IsFirstListed (races : List Race) (start : ℕ) (race : Race) : Type 0 where
  pub listed : Contains races race
  pub from_start : start ≤ race.later
  pub first : (r : Race) → Contains races r → start ≤ r.later → race.later ≤ r.later

-- places of one thread of the trace, in its order
pub record AreOwn (events : List Event) (places : List ℕ) : Type 0 where
  pub order : Rises places
  pub thread : ℕ
  pub is_of : (k e : ℕ) → slice_get places k ≡ Some e → thread_at events e ≡ Some thread

-- the place is in the list, with that operation
abbrev pub IsOwn : List Event → List ℕ → Op → ℕ → Type 0
IsOwn events places op l = Contains places l × (op_at events l ≡ Some op)

-- the place is the one, with that operation
abbrev pub IsThis : List Event → ℕ → Op → ℕ → Type 0
IsThis events later op l = (l ≡ later) × (op_at events l ≡ Some op)

-- the place is in the list, and accesses variable x
abbrev pub IsOwnAccess : List Event → List ℕ → ℕ → ℕ → Type 0
IsOwnAccess events places x l = Contains places l × Accesses events l x
