-- All cycles, in their order, are the patterns.
use Rattle.std.proofs.Common.{◌≡◌, ℕ, ◌+◌, ◌<◌, ◌≤◌, List, length, map, Some, ◌⊎◌, inl, inr, sym, ap, subst, ◌∙◌, arith}
use Rattle.std.specs.Prelude.{slice_get, Contains, AllPairs}
use Rattle.std.proofs.lemmas.List.{length-map}
use Rattle.sp_base.specs.declared.limits.TheConstants.{MAX_SIZE, MAX_PATTERNS}
use Rattle.trace_laws.specs.Event.{Event}
use Rattle.trace_laws.specs.Patterns.{Class, IsPattern, ComesBefore, ArePatterns}
use Rattle.trace_laws.proofs.Places.{contains_at}
use Rattle.lock_graph.specs.Classes.{Graph, AreClasses}
use Rattle.pattern_walk.specs.Cycles.{class_of, classes_of, IsCycle, Precedes}
use Rattle.pattern_walk.specs.Walks.{BeginsBelow, FoundBelow, HasMoreCycles}
use Rattle.pattern_walk.specs.Listed.{AreListedPatterns, HasMorePatterns}
use Rattle.pattern_walk.specs.Instances.{IsListedPattern}
use Rattle.pattern_walk.proofs.Lists.{all_pairs_from, all_pairs_at, map_at, contains_map, contains_mapped, not_longer}
use Rattle.pattern_walk.proofs.PatternCycles.{cycle_numbers, pattern_from_cycle, cycle_from_pattern}
use Rattle.trace_laws.proofs.Preceding.{before_one_way}
use Rattle.pattern_walk.proofs.Preceding.{before_from_precedes}

-- there are not more patterns than in the list of all
pub not_more : (events : List Event) (size : ℕ) (patterns : List (List Class)) → ArePatterns events size patterns → length patterns ≤ MAX_PATTERNS → HasMorePatterns events size → ⊥
not_more events size patterns are few more =
    let fewer : length more.some ≤ length patterns = not_longer ComesBefore before_one_way more.some patterns more.order are.order (λ p c. (are.members p).1 (more.patterns p c, more.sizes p c)) in
    let many = more.many in
    omega arith

-- the classes of a trace
module _ (events : List Event) (classes : List Class) (are : AreClasses events classes) where
  -- the patterns of cycles in their order are in theirs
  patterns_in_order : (found : List (List ℕ)) → AllPairs Precedes found → ((q : List ℕ) → Contains found q → IsCycle classes q) → AllPairs ComesBefore (map (classes_of classes) found)
  patterns_in_order found order cycles = all_pairs_from ComesBefore (map (classes_of classes) found) by
    where
      by : (i j : ℕ) (x y : List Class) → i < j → slice_get (map (classes_of classes) found) i ≡ Some x → slice_get (map (classes_of classes) found) j ≡ Some y → ComesBefore x y
      by i j x y less at_x at_y =
          let p = map_at (classes_of classes) found i x at_x in
          let q = map_at (classes_of classes) found j y at_y in
          let is_p = cycles p.0 (contains_at found i p.0 p.1) in
          let is_q = cycles q.0 (contains_at found j q.0 q.1) in
          subst (λ (a : List Class). ComesBefore a y) p.2 (subst (ComesBefore (classes_of classes p.0)) q.2
          (before_from_precedes events classes are p.0 q.0 (cycle_numbers classes p.0 is_p) (cycle_numbers classes q.0 is_q) (all_pairs_at Precedes found order i j p.0 q.0 less p.1 q.1)))

  -- all cycles of at most a size are the patterns of at most that size
  pub patterns_whole : (size : ℕ) (found : List (List ℕ)) → FoundBelow classes (size + 1) 0 found → ArePatterns events size (map (classes_of classes) found)
  patterns_whole size found all = record {
    order = patterns_in_order found all.found.order all.found.cycles;
    members = λ p. (forth p, λ h. back p h.0 h.1);
  }
    where
      forth : (p : List Class) → Contains (map (classes_of classes) found) p → IsPattern events p × (length p ≤ size)
      forth p c =
          let q = contains_mapped (classes_of classes) found p c in
          let less = small q.0 (all.only q.0 q.1) in
          (subst (IsPattern events) q.2 (pattern_from_cycle events classes are q.0 (all.found.cycles q.0 q.1)), subst (λ (a : List Class). length a ≤ size) q.2 (omega (arith, length-map q.0 (class_of classes))))
        where
          small : (q : List ℕ) → (length q < size + 1) ⊎ ((length q ≡ size + 1) × BeginsBelow 0 q) → length q ≤ size
          small q (inl less) = omega arith
          small q (inr h) = absurd (let below = h.1.below in omega arith)

      back : (p : List Class) → IsPattern events p → length p ≤ size → Contains (map (classes_of classes) found) p
      back p pattern le =
          let q = cycle_from_pattern events classes are p pattern in
          let long : length p ≡ length q.cycle = ap length (sym q.named) ∙ length-map q.cycle (class_of classes) in
          subst (Contains (map (classes_of classes) found)) q.named (contains_map (classes_of classes) found q.cycle (all.smaller q.cycle q.is (omega arith)))

  -- more cycles are more patterns
  pub more_patterns : (size : ℕ) → HasMoreCycles classes size → HasMorePatterns events size
  more_patterns size more = record {
    some = map (classes_of classes) more.some;
    order = patterns_in_order more.some more.order more.cycles;
    patterns = λ p c. let q = contains_mapped (classes_of classes) more.some p c in subst (IsPattern events) q.2 (pattern_from_cycle events classes are q.0 (more.cycles q.0 q.1));
    sizes = λ p c. let q = contains_mapped (classes_of classes) more.some p c in let le = more.sizes q.0 q.1 in subst (λ (a : List Class). length a ≤ size) q.2 (omega (arith, length-map q.0 (class_of classes)));
    many = let many = more.many in omega (arith, length-map more.some (classes_of classes));
  }

-- more cycles up to a size are more up to a greater one
pub more_up_to : (classes : List Class) (size most : ℕ) → size ≤ most → HasMoreCycles classes size → HasMoreCycles classes most
more_up_to classes size most le more = record {
  some = more.some;
  order = more.order;
  cycles = more.cycles;
  sizes = λ q c. let small = more.sizes q c in omega arith;
  many = more.many;
}

-- what the walk over all sizes found is listed
pub is_listed : (graph : Graph) (size : ℕ) (found : List (List ℕ)) → AreClasses graph.trace.events graph.classes → FoundBelow graph.classes (size + 1) 0 found → AreListedPatterns graph size found
is_listed graph size found are all = record {
  numbers = λ p c. cycle_numbers graph.classes p (all.found.cycles p c);
  patterns = patterns_whole graph.trace.events graph.classes are size found all;
}

-- and there are not more
pub is_all : (graph : Graph) (size : ℕ) (found : List (List ℕ)) → AreClasses graph.trace.events graph.classes → FoundBelow graph.classes (size + 1) 0 found → HasMorePatterns graph.trace.events size → ⊥
is_all graph size found are all = not_more graph.trace.events size (map (classes_of graph.classes) found) (patterns_whole graph.trace.events graph.classes are size found all) (let few = all.found.few in omega (arith, length-map found (classes_of graph.classes)))

-- each list of numbers that is listed is one of a pattern
pub of_listed : (graph : Graph) (size : ℕ) (listed : List (List ℕ)) (p : List ℕ) → AreListedPatterns graph size listed → size ≤ MAX_SIZE → Contains listed p → IsListedPattern graph p
of_listed graph size listed p are le c =
    let is = (are.patterns.members (classes_of graph.classes p)).0 (contains_map (classes_of graph.classes) listed p c) in
    record { numbers = are.numbers p c; pattern = is.0; size = (let small = is.1 in omega (arith, length-map p (class_of graph.classes))) }
