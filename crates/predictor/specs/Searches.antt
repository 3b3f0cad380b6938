-- What is found in a trace, and in ranges of its variables and of its patterns.
use Rattle.std.specs.Prelude.{◌≡◌, ◌<◌, ◌≤◌, ◌+◌, ◌↔◌, ℕ, List, length, map, Some, slice_get, Contains, All, AllPairs}
use Rattle.std.specs.List.{AllZip}
use Rattle.trace_laws.specs.Traces.{History}
use Rattle.trace_laws.specs.Patterns.{Class, ComesBefore}
use Rattle.trace_laws.specs.Findings.{Races, FoundRace, FoundDeadlock, DeadlockBy, IsFoundRace, IsFoundDeadlock, by_reorderings}
use Rattle.trace_laws.specs.Closed.{by_closure}
use Rattle.lock_graph.specs.Classes.{Graph}
use Rattle.pattern_walk.specs.Cycles.{classes_of}
use Rattle.pattern_walk.specs.Instances.{IsListedPattern}
use Rattle.race_scan.specs.Scans.{IsInRange, RacesInRange}

-- exactly the places that race with an earlier one, in the order of the trace, each with the earliest and its keep
pub record AreRaces (h : History) (found : List FoundRace) : Type 0 where
  pub order : AllPairs (λ a b. a.later < b.later) found
  pub races : All (IsFoundRace h.events h.threads (by_reorderings h.events)) found
  pub all : (e1 e2 : ℕ) → e1 < e2 → Races h.events e1 e2 → Contains (map (λ r. r.later) found) e2
  pub few : length found ≤ length h.events

-- exactly the places that race with an earlier one on a variable of the range, each with the earliest and its keep
pub record AreRacesIn (h : History) (from to : ℕ) (found : List FoundRace) : Type 0 where
  pub races : All (IsFoundRace h.events h.threads (by_reorderings h.events)) found
  pub inside : All (λ r. IsInRange h.events from to r.later) found
  pub all : (later : ℕ) → RacesInRange h.events from to later → Contains (map (λ r. r.later) found) later

-- the list has patterns of the trace, in their order, by the numbers of their classes
pub record AreRanked (graph : Graph) (listed : List (List ℕ)) : Type 0 where
  pub each : (p : List ℕ) → Contains listed p → IsListedPattern graph p
  pub order : AllPairs ComesBefore (map (classes_of graph.classes) listed)

-- the pattern stands in the list from a number on and below another, and some instance of it is a deadlock, judged by closures
pub record HasDeadlockBetween (h : History) (patterns : List (List Class)) (from to : ℕ) (pattern : List Class) : Type 0 where
  pub number : ℕ
  pub least : from ≤ number
  pub below : number < to
  pub at : slice_get patterns number ≡ Some pattern
  pub picks : List ℕ
  pub deadlock : DeadlockBy (by_closure h.events) pattern picks

-- exactly the patterns of a range of the list that have a deadlock, in its order, and the least deadlock of each with its keep
pub record AreDeadlocks (h : History) (patterns : List (List Class)) (from to : ℕ) (found : List FoundDeadlock) : Type 0 where
  pub deadly : List (List Class)
  pub order : AllPairs ComesBefore deadly
  pub members : (p : List Class) → Contains deadly p ↔ HasDeadlockBetween h patterns from to p
  pub least : AllZip (IsFoundDeadlock h.events h.threads (by_closure h.events)) deadly found
  pub few : from + length found ≤ to
