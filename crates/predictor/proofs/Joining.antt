-- What the first jobs of a search find together.
use Rattle.std.proofs.Common.{◌≡◌, ℕ, ◌+◌, ◌<◌, ◌≤◌, List, [], ◌++◌, length, get_or, map, refl, sym, subst, arith}
use Rattle.std.specs.Prelude.{Option, Some, None, All, slice_get}
use Rattle.std.proofs.lemmas.List.{length-map}
use Rattle.std.proofs.lemmas.Option.{slice_get-get_or}
use Rattle.trace_laws.specs.Findings.{Found}
use Rattle.trace_laws.specs.declared.finding.Race.{Race}
use Rattle.lock_graph.specs.Classes.{Graph}
use Rattle.pattern_walk.specs.Cycles.{classes_of}
use Rattle.predictor.specs.Borders.{border}
use Rattle.predictor.specs.Parts.{race_found, deadlock_found, IsBetween, AreFilled, AreSlots}
use Rattle.predictor.specs.Searches.{AreRanked, AreDeadlocks}
use Rattle.predictor.specs.declared.cut.Border.{Border}
use Rattle.predictor.specs.declared.part.Part.{Part}
use Rattle.predictor.proofs.Deadly.{no_pattern, range_more}
use Rattle.predictor.proofs.Slotting.{slots_none, slots_more}

-- the slots have the races of the variables before a border, and the findings are the deadlocks of the patterns before it
pub record HasJoined (graph : Graph) (listed : List (List ℕ)) (to : Border) (slots : List (Option (Race × List ℕ))) (found : Found) : Type 0 where
  pub races : AreSlots graph.trace to.variable slots
  pub deadlocks : AreDeadlocks graph.trace (map (classes_of graph.classes) listed) 0 to.pattern found.deadlocks

-- before the first job
pub joined_none : (graph : Graph) (listed : List (List ℕ)) (slots : List (Option (Race × List ℕ))) (found : Found) → length slots ≡ length graph.trace.events → All (λ slot. slot ≡ None) slots → found.deadlocks ≡ [] → HasJoined graph listed (border 0 0) slots found
joined_none graph listed slots found size none alone = record {
  races = slots_none graph.trace slots size none;
  deadlocks = subst (AreDeadlocks graph.trace (map (classes_of graph.classes) listed) 0 0) (sym alone) (no_pattern graph.trace (map (classes_of graph.classes) listed) 0 0 refl);
}

-- one job more
pub joined_more : (graph : Graph) (listed : List (List ℕ)) (from to : Border) (part : Part) (before slots : List (Option (Race × List ℕ))) (found next : Found) → AreRanked graph listed → from.pattern ≤ to.pattern → IsBetween graph listed from to part
    → HasJoined graph listed from before found → AreFilled graph.trace before (map race_found part.races.items) slots → next.deadlocks ≡ found.deadlocks ++ map deadlock_found part.deadlocks.items → HasJoined graph listed to slots next
joined_more graph listed from to part before slots found next ranked le between joined filled added = record {
  races = slots_more graph.trace from.variable to.variable before (map race_found part.races.items) slots joined.races between.races filled;
  deadlocks = subst (AreDeadlocks graph.trace (map (classes_of graph.classes) listed) 0 to.pattern) (sym added)
      (range_more graph.trace (map (classes_of graph.classes) listed) 0 from.pattern to.pattern found.deadlocks (map deadlock_found part.deadlocks.items) ranked.order (omega arith) le joined.deadlocks between.deadlocks);
}

-- the deadlocks of one job more are no more than the patterns before its border
pub few_more : (graph : Graph) (listed : List (List ℕ)) (from to : Border) (part : Part) (slots : List (Option (Race × List ℕ))) (found : Found) → IsBetween graph listed from to part → HasJoined graph listed from slots found → length found.deadlocks + length part.deadlocks.items ≤ to.pattern
few_more graph listed from to part slots found between joined =
    let few = joined.deadlocks.few in
    let more = between.deadlocks.few in
    let long = length-map part.deadlocks.items deadlock_found in
    omega arith

-- the borders of a job
pub borders_at : (borders : List Border) (n : ℕ) → n + 1 < length borders → (slice_get borders n ≡ Some (get_or borders n (border 0 0))) × (slice_get borders (n + 1) ≡ Some (get_or borders (n + 1) (border 0 0)))
borders_at borders n inside = (slice_get-get_or borders n (border 0 0) (omega arith), slice_get-get_or borders (n + 1) (border 0 0) inside)
