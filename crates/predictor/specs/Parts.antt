-- What the jobs of a search find.
use Rattle.std.specs.Prelude.{◌≡◌, ◌≤◌, ◌+◌, ℕ, List, [], Option, Some, None, length, map, slice_get, Contains}
use Rattle.trace_laws.specs.Traces.{History}
use Rattle.trace_laws.specs.Findings.{FoundRace, FoundDeadlock, IsFoundRace, by_reorderings}
use Rattle.trace_laws.specs.declared.finding.Race.{Race}
use Rattle.lock_graph.specs.Classes.{Graph}
use Rattle.pattern_walk.specs.Cycles.{classes_of}
use Rattle.race_scan.specs.Scans.{RacesInRange, found_race}
use Rattle.predictor.specs.Searches.{AreRacesIn, AreDeadlocks}
use Rattle.predictor.specs.declared.cut.Border.{Border}
use Rattle.predictor.specs.declared.part.Part.{Part}

-- a race beside its keep
abbrev pub race_found : Race × List ℕ → FoundRace
race_found r = found_race r.0 r.1

-- the picks of a deadlock beside their keep
abbrev pub deadlock_found : List ℕ × List ℕ → FoundDeadlock
deadlock_found d = record { picks = d.0; keep = d.1 }

-- the part has the races of the variables between two borders, and the deadlocks of the patterns between them
pub record IsBetween (graph : Graph) (listed : List (List ℕ)) (from to : Border) (part : Part) : Type 0 where
  pub races : AreRacesIn graph.trace from.variable to.variable (map race_found part.races.items)
  pub deadlocks : AreDeadlocks graph.trace (map (classes_of graph.classes) listed) from.pattern to.pattern (map deadlock_found part.deadlocks.items)

-- The part is what the job between a border and the next one finds. It is empty where there are no two such borders, so
-- that the number is that of no job.
pub record IsPartOfJob (graph : Graph) (listed : List (List ℕ)) (borders : List Border) (n : ℕ) (part : Part) : Type 0 where
  pub between : (from to : Border) → slice_get borders n ≡ Some from → slice_get borders (n + 1) ≡ Some to → IsBetween graph listed from to part
  pub no_races : length borders ≤ n + 1 → part.races.items ≡ []
  pub no_deadlocks : length borders ≤ n + 1 → part.deadlocks.items ≡ []

-- The slots were filled with races, each at its later place. A slot that is empty was so before, and none of the races has
-- its place.
pub record AreFilled (h : History) (before : List (Option (Race × List ℕ))) (races : List FoundRace) (slots : List (Option (Race × List ℕ))) : Type 0 where
  pub size : length slots ≡ length h.events
  pub filled : (place : ℕ) (r : Race × List ℕ) → slice_get slots place ≡ Some (Some r) → (r.0.later ≡ place) × IsFoundRace h.events h.threads (by_reorderings h.events) (race_found r)
  pub empty : (place : ℕ) → slice_get slots place ≡ Some None → (slice_get before place ≡ Some None) × (Contains (map (λ r. r.later) races) place → ⊥)

-- each place that races with an earlier one on a variable below a number has its race in its slot, and only such races are in slots
pub record AreSlots (h : History) (to : ℕ) (slots : List (Option (Race × List ℕ))) : Type 0 where
  pub size : length slots ≡ length h.events
  pub filled : (place : ℕ) (r : Race × List ℕ) → slice_get slots place ≡ Some (Some r) → (r.0.later ≡ place) × IsFoundRace h.events h.threads (by_reorderings h.events) (race_found r)
  pub empty : (place : ℕ) → slice_get slots place ≡ Some None → RacesInRange h.events 0 to place → ⊥
