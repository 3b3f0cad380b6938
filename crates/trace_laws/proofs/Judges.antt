-- What is found is the same, judged by reorderings and by closures.
use Rattle.std.proofs.Common.{◌≡◌, ℕ, ◌<◌, Bool, true, false, List, [], ◌∷◌, length, ◌⊎◌, inl, inr, refl, subst}
use Rattle.std.specs.Prelude.{Contains, ◌↔◌}
use Rattle.std.specs.List.{AllZip}
use Rattle.std.proofs.Math.Decide.{map_dec}
use Rattle.trace_laws.specs.Event.{Event}
use Rattle.trace_laws.specs.declared.event.Op.TheVariants.{Acquire}
use Rattle.trace_laws.specs.Trace.{Lawful}
use Rattle.trace_laws.specs.Reordering.{IsNeeded}
use Rattle.trace_laws.specs.Patterns.{Class, IsClass, IsPattern, IsInstance}
use Rattle.trace_laws.specs.Findings.{Judge, by_reorderings, IsKeep, RaceBy, DeadlockBy, FoundRace, FoundDeadlock, Found, IsFoundRace, IsFoundDeadlock, AreFindings}
use Rattle.trace_laws.specs.Closed.{IsClosureBefore, BeforeAny, by_closure, JudgesAgree}
use Rattle.trace_laws.proofs.Places.{before_within, within_from_op, contains_head, contains_tail, contains_cases, contains_none}
use Rattle.trace_laws.proofs.Enabling.{is_listed, contains_from_listed, listed_from_contains, conflict_within, enabled_outside_closure_lem, needed_are_the_closure_lem}
use Rattle.trace_laws.proofs.Deciding.{dec_some, dec_and, dec_before}
use Rattle.trace_laws.proofs.LeastClosed.{closure_exists}

-- whether a place is in a list
pub dec_contains : (places : List ℕ) (i : ℕ) → Dec (Contains places i)
dec_contains places i = go (is_listed places i) refl
  where
    go : (b : Bool) → is_listed places i ≡ b → Dec (Contains places i)
    go true e = yes (contains_from_listed places i e)
    go false e = no (λ c. let t = listed_from_contains places i c in cc)

-- whether a place comes before one of the picks
dec_before_any : (trace : List Event) (picks : List ℕ) (i : ℕ) → Dec (BeforeAny trace picks i)
dec_before_any trace picks i = map_dec
    (λ h. record { pick = h.0; is_pick = h.2.0; before = h.2.1 })
    (λ h. (h.pick, before_within trace i h.pick h.before, (h.is_pick, h.before)))
    (dec_some (length trace) _ (λ p. dec_and (dec_contains picks p) (dec_before trace i p)))

-- the closure of the places before the picks exists
pub closure_before : (trace : List Event) (picks : List ℕ) → (set : ℕ → Bool) × IsClosureBefore trace picks set
closure_before trace picks = closure_exists trace (BeforeAny trace picks) (dec_before_any trace picks)

-- the picks are places of the trace
abbrev pub AreWithin : List Event → List ℕ → Type 0
AreWithin trace picks = (e : ℕ) → Contains picks e → e < length trace

-- two judges that say the same of places of the trace
record Agree (trace : List Event) (j k : Judge) : Type 0 where
  pub forth : (picks : List ℕ) → AreWithin trace picks → j.enabled picks → k.enabled picks
  pub back : (picks : List ℕ) → AreWithin trace picks → k.enabled picks → j.enabled picks
  pub needed : (picks : List ℕ) → AreWithin trace picks → j.enabled picks → (p : ℕ) → j.needed picks p ↔ k.needed picks p

-- in a lawful trace reorderings and closures say the same
reorderings_to_closure : (trace : List Event) → Lawful trace → Agree trace (by_reorderings trace) (by_closure trace)
reorderings_to_closure trace lawful = record {
  forth = λ picks within found. let c = closure_before trace picks in (c.0, c.1, (enabled_outside_closure_lem trace lawful picks c.0 within c.1).0 found);
  back = λ picks within found. (enabled_outside_closure_lem trace lawful picks found.0 within found.1).1 found.2;
  needed = λ picks within found p. (only picks within found p, if picks within found p);
}
  where
    only : (picks : List ℕ) → AreWithin trace picks → (by_reorderings trace).enabled picks → (p : ℕ) → IsNeeded trace picks p → (by_closure trace).needed picks p
    only picks within found p needed =
        let c = closure_before trace picks in
        let h = (needed_are_the_closure_lem trace lawful picks c.0 within c.1 ((enabled_outside_closure_lem trace lawful picks c.0 within c.1).0 found) p).0 needed in
        (c.0, c.1, h.0, h.1)

    if : (picks : List ℕ) → AreWithin trace picks → (by_reorderings trace).enabled picks → (p : ℕ) → (by_closure trace).needed picks p → IsNeeded trace picks p
    if picks within found p h =
        (needed_are_the_closure_lem trace lawful picks h.0 within h.1 ((enabled_outside_closure_lem trace lawful picks h.0 within h.1).0 found) p).1 (h.2, h.3)

-- that two judges say the same can be turned round
agree_back : (trace : List Event) (j k : Judge) → Agree trace j k → Agree trace k j
agree_back trace j k a = record {
  forth = a.back;
  back = a.forth;
  needed = λ picks within found p. let n = a.needed picks within (a.back picks within found) p in (n.1, n.0);
}

-- an element of a list that meets its partner
partner : {A B : Type 0} (R : A → B → Type 0) (xs : List A) (ys : List B) (y : B) → AllZip R xs ys → Contains ys y → (x : A) × Contains xs x × R x y
partner R [] [] y h c = absurd (contains_none y c)
partner R [] (z ∷ ys) y h c = absurd h
partner R (x ∷ xs) [] y h c = absurd h
partner {A} {B} R (x ∷ xs) (z ∷ ys) y h c = go (partner R xs ys y h.1) (contains_cases z ys y c)
  where
    go : (Contains ys y → (x : A) × Contains xs x × R x y) → (z ≡ y) ⊎ Contains ys y → (w : A) × Contains (x ∷ xs) w × R w y
    go rest (inl e) = (x, contains_head x xs, subst (R x) e h.0)
    go rest (inr k) = let r = rest k in (r.0, contains_tail x xs r.0 r.1, r.2)

-- what two lists have in each position can be weakened
pub zip_under : {A B : Type 0} (R S : A → B → Type 0) (xs : List A) (ys : List B) → ((x : A) (y : B) → Contains xs x → R x y → S x y) → AllZip R xs ys → AllZip S xs ys
zip_under R S [] [] f h = tt
zip_under R S [] (y ∷ ys) f h = absurd h
zip_under R S (x ∷ xs) [] f h = absurd h
zip_under R S (x ∷ xs) (y ∷ ys) f h = (f x y (contains_head x xs) h.0, zip_under R S xs ys (λ a b c r. f a b (contains_tail x xs a c) r) h.1)

-- the picks of an instance are places of the trace
pub instance_within : (trace : List Event) (pattern : List Class) (picks : List ℕ) → IsPattern trace pattern → IsInstance pattern picks → AreWithin trace picks
instance_within trace pattern picks is_pattern instance e c =
    let found = partner (λ (class : Class) (a : ℕ). Contains class.acquires a) pattern picks e instance c in
    let is_class : IsClass trace found.0 = subst (IsClass trace) found.1.2 (is_pattern.classes found.1.0 found.0 found.1.1) in
    within_from_op trace e (Acquire found.0.lock) ((is_class.members e).0 found.2).acquires.op

-- what is found by one judge, by another that says the same
module _ (trace : List Event) (threads size : ℕ) (j k : Judge) (agree : Agree trace j k) where
  -- a keep by one judge is a keep by the other
  keep_moves : (picks keep : List ℕ) → AreWithin trace picks → j.enabled picks → IsKeep trace threads j picks keep → IsKeep trace threads k picks keep
  keep_moves picks keep within found h = record {
    size = h.size;
    counts = λ t less. let n = h.counts t less in record {
      places = n.places;
      order = n.order;
      members = λ p. let m = n.members p in let both = agree.needed picks within found p in
          (λ c. ((m.0 c).0, both.0 (m.0 c).1), λ q. m.1 (q.0, both.1 q.1));
      size = n.size;
    };
  }

  -- a race by one judge is a race by the other
  race_moves : (e1 e2 : ℕ) → RaceBy trace j e1 e2 → RaceBy trace k e1 e2
  race_moves e1 e2 h = record { conflict = h.conflict; enabled = agree.forth (e1 ∷ e2 ∷ []) (conflict_within trace e1 e2 h.conflict) h.enabled }

  -- and the other way round
  race_returns : (e1 e2 : ℕ) → RaceBy trace k e1 e2 → RaceBy trace j e1 e2
  race_returns e1 e2 h = record { conflict = h.conflict; enabled = agree.back (e1 ∷ e2 ∷ []) (conflict_within trace e1 e2 h.conflict) h.enabled }

  -- a found race by one judge is one by the other
  found_race_moves : (f : FoundRace) → IsFoundRace trace threads j f → IsFoundRace trace threads k f
  found_race_moves f h = record {
    order = h.order;
    race = race_moves f.earlier f.later h.race;
    earliest = λ e less race. h.earliest e less (race_returns e f.later race);
    keep = keep_moves (f.earlier ∷ f.later ∷ []) f.keep (conflict_within trace f.earlier f.later h.race.conflict) h.race.enabled h.keep;
  }

  -- a deadlock by one judge is a deadlock by the other
  deadlock_moves : (pattern : List Class) (picks : List ℕ) → IsPattern trace pattern → DeadlockBy j pattern picks → DeadlockBy k pattern picks
  deadlock_moves pattern picks is_pattern h = record { picked = h.picked; enabled = agree.forth picks (instance_within trace pattern picks is_pattern h.picked) h.enabled }

  -- and the other way round
  deadlock_returns : (pattern : List Class) (picks : List ℕ) → IsPattern trace pattern → DeadlockBy k pattern picks → DeadlockBy j pattern picks
  deadlock_returns pattern picks is_pattern h = record { picked = h.picked; enabled = agree.back picks (instance_within trace pattern picks is_pattern h.picked) h.enabled }

  -- a found deadlock by one judge is one by the other
  found_deadlock_moves : (pattern : List Class) (f : FoundDeadlock) → IsPattern trace pattern → IsFoundDeadlock trace threads j pattern f → IsFoundDeadlock trace threads k pattern f
  found_deadlock_moves pattern f is_pattern h = record {
    deadlock = deadlock_moves pattern f.picks is_pattern h.deadlock;
    least = λ picks d. h.least picks (deadlock_returns pattern picks is_pattern d);
    keep = keep_moves f.picks f.keep (instance_within trace pattern f.picks is_pattern h.deadlock.picked) h.deadlock.enabled h.keep;
  }

  -- what is found by one judge is found by the other
  findings_move : (found : Found) → AreFindings trace threads size j found → AreFindings trace threads size k found
  findings_move found h = record {
    race_order = h.race_order;
    races = λ i d less. found_race_moves _ (h.races i d less);
    all_races = λ e1 e2 less race. h.all_races e1 e2 less (race_returns e1 e2 race);
    patterns = h.patterns;
    pattern_order = h.pattern_order;
    members = λ p. let m = h.members p in
        (λ c. let q = m.0 c in (q.0, q.1, (q.2.0, deadlock_moves p q.2.0 q.0 q.2.1)), λ q. m.1 (q.0, q.1, (q.2.0, deadlock_returns p q.2.0 q.0 q.2.1)));
    deadlocks = zip_under (IsFoundDeadlock trace threads j) (IsFoundDeadlock trace threads k) h.patterns found.deadlocks (λ p f c d. found_deadlock_moves p f ((h.members p).0 c).0 d) h.deadlocks;
  }

-- what is found in a lawful trace is the same by either judge
pub judges_agree_lem : (trace : List Event) → Lawful trace → JudgesAgree trace
judges_agree_lem trace lawful threads size found =
    let agree = reorderings_to_closure trace lawful in (
      findings_move trace threads size (by_reorderings trace) (by_closure trace) agree found,
      findings_move trace threads size (by_closure trace) (by_reorderings trace) (agree_back trace (by_reorderings trace) (by_closure trace) agree) found,
    )
