-- The deadlocks of ranges of patterns, and what is predicted with those of all.
use Rattle.std.proofs.Common.{◌≡◌, ℕ, Bool, ◌+◌, ◌<◌, ◌≤◌, List, [], ◌∷◌, ◌++◌, length, map, get_or, ◌⊎◌, inl, inr, refl, sym, ap, subst, ◌∙◌, arith, length-append}
use Rattle.std.specs.Prelude.{Contains, AllPairs, IsTrue, ◌↔◌, Some, slice_get}
use Rattle.std.specs.Option.{option_map}
use Rattle.sp_base.specs.declared.limits.TheConstants.{MAX_SIZE}
use Rattle.std.proofs.lemmas.Bool.{cases_lt}
use Rattle.std.proofs.lemmas.List.{length-map}
use Rattle.std.proofs.lemmas.List.Elements.{Contains-push, Contains-append_left, Contains-append_right, Contains-append_cases, Contains-push_cases, Contains-get_or}
use Rattle.std.proofs.lemmas.List.Quantifiers.{all_pairs_push}
use Rattle.std.proofs.lemmas.Option.{slice_get_within, slice_get-map, get_or_from_slice_get}
use Rattle.std.proofs.lemmas.Slice.Zip.{all_zipped_more}
use Rattle.trace_laws.specs.Event.{Event}
use Rattle.trace_laws.specs.Trace.{Lawful}
use Rattle.trace_laws.specs.Traces.{History, IsTrace}
use Rattle.trace_laws.specs.Reordering.{IsNeeded}
use Rattle.trace_laws.specs.Patterns.{Class, IsPattern, ComesBefore}
use Rattle.trace_laws.specs.Findings.{Found, FoundDeadlock, DeadlockBy, IsFoundDeadlock, IsKeep, by_reorderings}
use Rattle.trace_laws.specs.Closed.{IsClosureBefore, by_closure}
use Rattle.trace_laws.proofs.Places.{three_way, index_of, contains_at, contains_none}
use Rattle.trace_laws.proofs.Enabling.{enabled_outside_closure_lem, needed_are_the_closure_lem}
use Rattle.trace_laws.proofs.Judges.{AreWithin, closure_before, instance_within, zip_under}
use Rattle.lock_graph.specs.Classes.{Graph}
use Rattle.pattern_walk.specs.Cycles.{class_of, classes_of}
use Rattle.pattern_walk.specs.Instances.{HasNoDeadlock}
use Rattle.pattern_walk.specs.Listed.{AreListedPatterns}
use Rattle.predictor.specs.Predictions.{ArePredictions}
use Rattle.predictor.specs.Searches.{AreRaces, AreRanked, AreDeadlocks, HasDeadlockBetween}
use Rattle.predictor.proofs.Chaining.{all_pairs_append, all_zip_append}

-- no pattern has no deadlock
pub no_pattern : (h : History) (patterns : List (List Class)) (from to : ℕ) → from ≡ to → AreDeadlocks h patterns from to []
no_pattern h patterns from to same = record {
  deadly = [];
  order = λ i j d less within. absurd (omega arith);
  members = λ p. (λ c. absurd (contains_none p c), λ has. let least = has.least in let below = has.below in absurd (omega arith));
  least = tt;
  few = omega arith;
}

-- of patterns in their order an earlier one comes before a later one
in_order : (patterns : List (List Class)) (i j : ℕ) (p q : List Class) → AllPairs ComesBefore patterns → i < j → slice_get patterns i ≡ Some p → slice_get patterns j ≡ Some q → ComesBefore p q
in_order patterns i j p q order less at_p at_q =
    subst (λ x. ComesBefore x q) (get_or_from_slice_get patterns i p p at_p)
    (subst (λ x. ComesBefore (get_or patterns i p) x) (get_or_from_slice_get patterns j q p at_q) (order i j p less (slice_get_within patterns j q at_q)))

-- the deadlocks of the patterns of a range
module _ (h : History) (patterns : List (List Class)) (from : ℕ) where
  -- a pattern of a range is one of a longer range
  longer : (mid to : ℕ) (p : List Class) → mid ≤ to → HasDeadlockBetween h patterns from mid p → HasDeadlockBetween h patterns from to p
  longer mid to p le has = record { number = has.number; least = has.least; below = let less = has.below in omega arith; at = has.at; picks = has.picks; deadlock = has.deadlock }

  -- a pattern of the range with one pattern more is one of the range, or that pattern
  between_or_next : (n : ℕ) (next p : List Class) → slice_get patterns n ≡ Some next → HasDeadlockBetween h patterns from (n + 1) p → HasDeadlockBetween h patterns from n p ⊎ (next ≡ p)
  between_or_next n next p at has = place (three_way has.number n)
    where
      place : (has.number < n) ⊎ ((has.number ≡ n) ⊎ (n < has.number)) → HasDeadlockBetween h patterns from n p ⊎ (next ≡ p)
      place (inl less) = inl (record { number = has.number; least = has.least; below = less; at = has.at; picks = has.picks; deadlock = has.deadlock })
      place (inr (inl same)) = let there : slice_get patterns n ≡ Some p = subst (λ k. slice_get patterns k ≡ Some p) same has.at in inr (cc)
      place (inr (inr more)) = let below = has.below in absurd (omega arith)

  -- a pattern without a deadlock
  pub past_one : (n : ℕ) (next : List Class) (found : List FoundDeadlock) → slice_get patterns n ≡ Some next → HasNoDeadlock h.events next → AreDeadlocks h patterns from n found → AreDeadlocks h patterns from (n + 1) found
  past_one n next found at none are = record {
    deadly = are.deadly;
    order = are.order;
    members = λ p. (λ c. longer n (n + 1) p (omega arith) ((are.members p).0 c), λ has. (are.members p).1 (but_next p has (between_or_next n next p at has)));
    least = are.least;
    few = let few = are.few in omega arith;
  }
    where
      but_next : (p : List Class) → HasDeadlockBetween h patterns from (n + 1) p → HasDeadlockBetween h patterns from n p ⊎ (next ≡ p) → HasDeadlockBetween h patterns from n p
      but_next p has (inl before) = before
      but_next p has (inr same) = absurd (none has.picks (subst (λ q. DeadlockBy (by_closure h.events) q has.picks) (sym same) has.deadlock))

  -- a pattern with a deadlock
  pub one_more : (n : ℕ) (next : List Class) (found : List FoundDeadlock) (d : FoundDeadlock) → from ≤ n → AllPairs ComesBefore patterns → slice_get patterns n ≡ Some next
      → IsFoundDeadlock h.events h.threads (by_closure h.events) next d → AreDeadlocks h patterns from n found → AreDeadlocks h patterns from (n + 1) (found ++ d ∷ [])
  one_more n next found d after order at is are = record {
    deadly = are.deadly ++ next ∷ [];
    order = all_pairs_push ComesBefore are.deadly next are.order
        (λ k e less. let has = (are.members (get_or are.deadly k e)).0 (Contains-get_or are.deadly k e less) in in_order patterns has.number n (get_or are.deadly k e) next order has.below has.at at);
    members = λ p. (λ c. has_one p (Contains-push_cases are.deadly next p c), λ has. stands p (between_or_next n next p at has));
    least = all_zipped_more (IsFoundDeadlock h.events h.threads (by_closure h.events)) are.deadly found next d are.least is;
    few = let few = are.few in let long = length-append found (d ∷ []) in let one : length (d ∷ []) ≡ 1 = refl in omega arith;
  }
    where
      has_one : (p : List Class) → Contains are.deadly p ⊎ (next ≡ p) → HasDeadlockBetween h patterns from (n + 1) p
      has_one p (inl c) = longer n (n + 1) p (omega arith) ((are.members p).0 c)
      has_one p (inr same) = subst (HasDeadlockBetween h patterns from (n + 1)) same (record { number = n; least = after; below = omega arith; at = at; picks = d.picks; deadlock = is.deadlock })

      stands : (p : List Class) → HasDeadlockBetween h patterns from n p ⊎ (next ≡ p) → Contains (are.deadly ++ next ∷ []) p
      stands p (inl has) = Contains-append_left are.deadly (next ∷ []) p ((are.members p).1 has)
      stands p (inr same) = subst (Contains (are.deadly ++ next ∷ [])) same (Contains-push are.deadly next)

  -- the deadlocks of a range, and behind them those of the next range
  pub range_more : (mid to : ℕ) (front back : List FoundDeadlock) → AllPairs ComesBefore patterns → from ≤ mid → mid ≤ to → AreDeadlocks h patterns from mid front → AreDeadlocks h patterns mid to back → AreDeadlocks h patterns from to (front ++ back)
  range_more mid to front back order le_mid le_to first second = record {
    deadly = first.deadly ++ second.deadly;
    order = all_pairs_append ComesBefore first.deadly second.deadly first.order second.order (λ p q c d.
        let early = (first.members p).0 c in
        let late = (second.members q).0 d in
        let below = early.below in
        let least = late.least in
        in_order patterns early.number late.number p q order (omega arith) early.at late.at);
    members = λ p. (λ c. has_one p (Contains-append_cases first.deadly second.deadly p c), λ has. stands p has (cases_lt has.number mid));
    least = all_zip_append (IsFoundDeadlock h.events h.threads (by_closure h.events)) first.deadly second.deadly front back first.least second.least;
    few = let few_front = first.few in let few_back = second.few in let long = length-append front back in omega arith;
  }
    where
      has_one : (p : List Class) → Contains first.deadly p ⊎ Contains second.deadly p → HasDeadlockBetween h patterns from to p
      has_one p (inl c) = longer mid to p le_to ((first.members p).0 c)
      has_one p (inr c) =
          let has = (second.members p).0 c in
          record { number = has.number; least = let least = has.least in omega arith; below = has.below; at = has.at; picks = has.picks; deadlock = has.deadlock }

      stands : (p : List Class) (has : HasDeadlockBetween h patterns from to p) → (has.number < mid) ⊎ (mid ≤ has.number) → Contains (first.deadly ++ second.deadly) p
      stands p has (inl less) = Contains-append_left first.deadly second.deadly p ((first.members p).1 (record { number = has.number; least = has.least; below = less; at = has.at; picks = has.picks; deadlock = has.deadlock }))
      stands p has (inr least) = Contains-append_right first.deadly second.deadly p ((second.members p).1 (record { number = has.number; least = least; below = has.below; at = has.at; picks = has.picks; deadlock = has.deadlock }))

-- judged by closures and by reorderings, a pattern of a lawful trace has the same deadlocks
module _ (h : History) (lawful : Lawful h.events) (pattern : List Class) (is : IsPattern h.events pattern) where
  -- a deadlock by closures is one by reorderings
  by_reordering : (picks : List ℕ) → DeadlockBy (by_closure h.events) pattern picks → DeadlockBy (by_reorderings h.events) pattern picks
  by_reordering picks d = record {
    picked = d.picked;
    enabled = (enabled_outside_closure_lem h.events lawful picks d.enabled.0 (instance_within h.events pattern picks is d.picked) d.enabled.1).1 d.enabled.2;
  }

  -- and the other way round
  by_closing : (picks : List ℕ) → DeadlockBy (by_reorderings h.events) pattern picks → DeadlockBy (by_closure h.events) pattern picks
  by_closing picks d = let set = closure_before h.events picks in record {
    picked = d.picked;
    enabled = (set.0, set.1, (enabled_outside_closure_lem h.events lawful picks set.0 (instance_within h.events pattern picks is d.picked) set.1).0 d.enabled);
  }

  -- the keep of a deadlock by closures is that by reorderings
  keep_of : (picks keep : List ℕ) → DeadlockBy (by_closure h.events) pattern picks → IsKeep h.events h.threads (by_closure h.events) picks keep → IsKeep h.events h.threads (by_reorderings h.events) picks keep
  keep_of picks keep d k = record {
    size = k.size;
    counts = λ t less. let n = k.counts t less in record {
      places = n.places;
      order = n.order;
      members = λ p. (
        λ c. let m = (n.members p).0 c in (m.0, (needed m.1.0 m.1.1 p).1 (m.1.2, m.1.3)),
        λ q. let both = (needed d.enabled.0 d.enabled.1 p).0 q.1 in (n.members p).1 (q.0, (d.enabled.0, d.enabled.1, both.0, both.1)),
      );
      size = n.size;
    };
  }
    where
      within : AreWithin h.events picks
      within = instance_within h.events pattern picks is d.picked

      needed : (set : ℕ → Bool) → IsClosureBefore h.events picks set → (p : ℕ) → IsNeeded h.events picks p ↔ ((p < length h.events) × IsTrue (set p))
      needed set closure = needed_are_the_closure_lem h.events lawful picks set within closure ((enabled_outside_closure_lem h.events lawful picks set within closure).0 (by_reordering picks d).enabled)

  -- the least deadlock by closures is that by reorderings
  least_of : (d : FoundDeadlock) → IsFoundDeadlock h.events h.threads (by_closure h.events) pattern d → IsFoundDeadlock h.events h.threads (by_reorderings h.events) pattern d
  least_of d f = record {
    deadlock = by_reordering d.picks f.deadlock;
    least = λ picks other. f.least picks (by_closing picks other);
    keep = keep_of d.picks d.keep f.deadlock f.keep;
  }

-- the races and the deadlocks of all patterns are what is predicted
pub predicted : (size : ℕ) (graph : Graph) (listed : List (List ℕ)) (found : Found) → IsTrace graph.trace.events graph.trace.threads → AreListedPatterns graph size listed → AreRaces graph.trace found.races
    → AreDeadlocks graph.trace (map (classes_of graph.classes) listed) 0 (length listed) found.deadlocks → ArePredictions graph.trace size found
unfolding ArePredictions
predicted size graph listed found trace are races deadlocks = record {
  race_order = races.order;
  races = races.races;
  all_races = races.all;
  patterns = deadlocks.deadly;
  pattern_order = deadlocks.order;
  members = λ p. (λ c. only p ((deadlocks.members p).0 c), λ m. if p m.0 m.1 m.2.0 m.2.1);
  deadlocks = zip_under (IsFoundDeadlock events threads (by_closure events)) (IsFoundDeadlock events threads (by_reorderings events)) deadlocks.deadly found.deadlocks
      (λ p f c is. least_of graph.trace trace.lawful p (only p ((deadlocks.members p).0 c)).0 f is) deadlocks.least;
}
  where
    events : List Event
    events = graph.trace.events

    threads : ℕ
    threads = graph.trace.threads

    patterns : List (List Class)
    patterns = map (classes_of graph.classes) listed

    only : (p : List Class) → HasDeadlockBetween graph.trace patterns 0 (length listed) p → IsPattern events p × (length p ≤ size) × ((picks : List ℕ) × DeadlockBy (by_reorderings events) p picks)
    only p has = let is = (are.patterns.members p).0 (contains_at patterns has.number p has.at) in (is.0, is.1, (has.picks, by_reordering graph.trace trace.lawful p is.0 has.picks has.deadlock))

    if : (p : List Class) → IsPattern events p → length p ≤ size → (picks : List ℕ) → DeadlockBy (by_reorderings events) p picks → Contains deadlocks.deadly p
    if p is few picks d =
        let at = index_of patterns p ((are.patterns.members p).1 (is, few)) in
        let within = slice_get_within patterns at.0 p at.1 in
        let long = length-map listed (classes_of graph.classes) in
        (deadlocks.members p).1 (record { number = at.0; least = omega arith; below = omega arith; at = at.1; picks = picks; deadlock = by_closing graph.trace trace.lawful p is picks d })

-- the classes of the pattern of a number
pub classes_at : (classes : List Class) (listed : List (List ℕ)) (n : ℕ) (p : List ℕ) → slice_get listed n ≡ Some p → slice_get (map (classes_of classes) listed) n ≡ Some (classes_of classes p)
classes_at classes listed n p at = slice_get-map (classes_of classes) listed n ∙ ap (option_map (classes_of classes)) at

-- the patterns that are listed are in their order
pub ranked : (graph : Graph) (size : ℕ) (listed : List (List ℕ)) → size ≤ MAX_SIZE → AreListedPatterns graph size listed → AreRanked graph listed
ranked graph size listed most are = record {
  each = λ p c.
      let number = index_of listed p c in
      let is = (are.patterns.members (classes_of graph.classes p)).0 (contains_at (map (classes_of graph.classes) listed) number.0 (classes_of graph.classes p) (classes_at graph.classes listed number.0 p number.1)) in
      let long = length-map p (class_of graph.classes) in
      record { numbers = are.numbers p c; pattern = is.0; size = let few = is.1 in omega arith };
  order = are.patterns.order;
}
