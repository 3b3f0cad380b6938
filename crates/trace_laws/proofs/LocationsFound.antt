-- What is found in a trace does not depend on its locations.
use Rattle.std.proofs.Common.{◌≡◌, ℕ, ◌<◌, List, [], ◌∷◌, length, Some}
use Rattle.std.specs.Prelude.{◌≤◌}
use Rattle.trace_laws.specs.Trace.{thread_at}
use Rattle.trace_laws.specs.Patterns.{Class, IsOfClass, IsClass, IsPattern}
use Rattle.trace_laws.specs.Findings.{by_reorderings, IsKeep, RaceBy, DeadlockBy, FoundRace, FoundDeadlock, Found, IsFoundRace, IsFoundDeadlock, AreFindings}
use Rattle.trace_laws.specs.Locations.{LocationsDoNotCount}
use Rattle.trace_laws.proofs.Judges.{zip_under}
use Rattle.trace_laws.proofs.Locations.{same_back, same_from, Keeps, thread_keeps, acquires_keep, holds_keep, can_leave_keeps, needed_keeps, conflict_keeps}

-- acquires of a class
of_class_keeps : (class : Class) (i : ℕ) → Keeps (λ trace. IsOfClass trace class i)
of_class_keeps class i a b same h = record {
  acquires = acquires_keep i class.thread class.lock a b same h.acquires;
  held = λ l. let m = h.held l in (
    λ c. holds_keep ◌<◌ i class.thread l a b same (m.0 c),
    λ k. m.1 (holds_keep ◌<◌ i class.thread l b a (same_back same) k),
  );
}

-- classes
class_keeps : (class : Class) → Keeps (λ trace. IsClass trace class)
class_keeps class a b same h = record {
  some = h.some;
  held = h.held;
  order = h.order;
  members = λ i. let m = h.members i in (
    λ c. of_class_keeps class i a b same (m.0 c),
    λ k. m.1 (of_class_keeps class i b a (same_back same) k),
  );
}

-- patterns
pattern_keeps : (pattern : List Class) → Keeps (λ trace. IsPattern trace pattern)
pattern_keeps pattern a b same h = record {
  size = h.size;
  classes = λ i d less. class_keeps _ a b same (h.classes i d less);
  apart = h.apart;
  cycle = h.cycle;
  first = h.first;
}

-- a place of a thread that is needed
of_thread_keeps : (picks : List ℕ) (t p : ℕ) → Keeps (λ trace. (thread_at trace p ≡ Some t) × (by_reorderings trace).needed picks p)
of_thread_keeps picks t p a b same h = (thread_keeps p t a b same h.0, needed_keeps picks p a b same h.1)

-- keeps of picks
keep_keeps : (threads : ℕ) (picks keep : List ℕ) → Keeps (λ trace. IsKeep trace threads (by_reorderings trace) picks keep)
keep_keeps threads picks keep a b same h = record {
  size = h.size;
  counts = λ t less. let n = h.counts t less in record {
    places = n.places;
    order = n.order;
    members = λ p. let m = n.members p in (
      λ c. of_thread_keeps picks t p a b same (m.0 c),
      λ k. m.1 (of_thread_keeps picks t p b a (same_back same) k),
    );
    size = n.size;
  };
}

-- races
race_keeps : (e1 e2 : ℕ) → Keeps (λ trace. RaceBy trace (by_reorderings trace) e1 e2)
race_keeps e1 e2 a b same h = record { conflict = conflict_keeps e1 e2 a b same h.conflict; enabled = can_leave_keeps (e1 ∷ e2 ∷ []) a b same h.enabled }

-- deadlocks
deadlock_keeps : (pattern : List Class) (picks : List ℕ) → Keeps (λ trace. DeadlockBy (by_reorderings trace) pattern picks)
deadlock_keeps pattern picks a b same h = record { picked = h.picked; enabled = can_leave_keeps picks a b same h.enabled }

-- races with their keep
found_race_keeps : (threads : ℕ) (found : FoundRace) → Keeps (λ trace. IsFoundRace trace threads (by_reorderings trace) found)
found_race_keeps threads found a b same h = record {
  order = h.order;
  race = race_keeps found.earlier found.later a b same h.race;
  earliest = λ e less race. h.earliest e less (race_keeps e found.later b a (same_back same) race);
  keep = keep_keeps threads (found.earlier ∷ found.later ∷ []) found.keep a b same h.keep;
}

-- deadlocks with their keep
found_deadlock_keeps : (threads : ℕ) (pattern : List Class) (found : FoundDeadlock) → Keeps (λ trace. IsFoundDeadlock trace threads (by_reorderings trace) pattern found)
found_deadlock_keeps threads pattern found a b same h = record {
  deadlock = deadlock_keeps pattern found.picks a b same h.deadlock;
  least = λ picks d. h.least picks (deadlock_keeps pattern picks b a (same_back same) d);
  keep = keep_keeps threads found.picks found.keep a b same h.keep;
}

-- patterns that have a deadlock
deadlocked_keeps : (size : ℕ) (p : List Class) → Keeps (λ trace. IsPattern trace p × (length p ≤ size) × ((picks : List ℕ) × DeadlockBy (by_reorderings trace) p picks))
deadlocked_keeps size p a b same h = (pattern_keeps p a b same h.0, h.1, (h.2.0, deadlock_keeps p h.2.0 a b same h.2.1))

-- all that is found
findings_keep : (threads size : ℕ) (found : Found) → Keeps (λ trace. AreFindings trace threads size (by_reorderings trace) found)
findings_keep threads size found a b same h = record {
  race_order = h.race_order;
  races = λ i d less. found_race_keeps threads _ a b same (h.races i d less);
  all_races = λ e1 e2 less race. h.all_races e1 e2 less (race_keeps e1 e2 b a (same_back same) race);
  patterns = h.patterns;
  pattern_order = h.pattern_order;
  members = λ p. let m = h.members p in (
    λ c. deadlocked_keeps size p a b same (m.0 c),
    λ k. m.1 (deadlocked_keeps size p b a (same_back same) k),
  );
  deadlocks = zip_under (IsFoundDeadlock a threads (by_reorderings a)) (IsFoundDeadlock b threads (by_reorderings b)) h.patterns found.deadlocks
      (λ p f c d. found_deadlock_keeps threads p f a b same d) h.deadlocks;
}

-- what is found in a trace does not depend on its locations
pub locations_do_not_count_lem : LocationsDoNotCount
locations_do_not_count_lem a b threads size found h = findings_keep threads size found a b (same_from a b h)
