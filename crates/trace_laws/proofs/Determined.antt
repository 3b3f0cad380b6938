-- What is found in a trace determines its list.
use Rattle.std.proofs.Common.{◌≡◌, ℕ, ◌<◌, ◌≤◌, List, [], ◌∷◌, map, Some, ◌⊎◌, inl, inr, refl, sym, subst, ◌∙◌, arith}
use Rattle.std.specs.Prelude.{Contains, slice_get}
use Rattle.std.specs.List.{AllZip}
use Rattle.std.proofs.lemmas.List.{ext_get_or}
use Rattle.std.proofs.lemmas.Option.{slice_get-map}
use Rattle.trace_laws.specs.Event.{Event}
use Rattle.trace_laws.specs.Trace.{thread_at}
use Rattle.trace_laws.specs.Patterns.{Class, ComesBefore}
use Rattle.trace_laws.specs.Findings.{Judge, IsKeep, RaceBy, FoundRace, FoundDeadlock, Found, IsFoundRace, IsFoundDeadlock, AreFindings, FindingsAreDetermined}
use Rattle.trace_laws.proofs.Places.{three_way, index_of, contains_at, mapped_from}
use Rattle.trace_laws.proofs.Ordered.{ordered_unique}
use Rattle.trace_laws.proofs.Counting.{count_unique}
use Rattle.trace_laws.proofs.Preceding.{before_one_way}

-- an element whose image is known
of_image : {A B : Type 0} (f : A → B) (xs : List A) (y : B) → Contains (map f xs) y → (x : A) × Contains xs x × (f x ≡ y)
of_image f xs y c =
    let at = index_of (map f xs) y c in
    let found = mapped_from f (slice_get xs at.0) y (sym (slice_get-map f xs at.0) ∙ at.1) in
    (found.0, contains_at xs at.0 found.0 found.1, found.2)

-- lists of which each is at most the other in each position are equal
both_at_most : (xs ys : List ℕ) → AllZip ◌≤◌ xs ys → AllZip ◌≤◌ ys xs → xs ≡ ys
both_at_most [] [] h k = refl
both_at_most [] (y ∷ ys) h k = absurd h
both_at_most (x ∷ xs) [] h k = absurd h
both_at_most (x ∷ xs) (y ∷ ys) h k = let rest = both_at_most xs ys h.1 k.1 in let up = h.0 in let down = k.0 in let same : x ≡ y = omega arith in cc

-- what one judge finds in one trace
module _ (trace : List Event) (threads size : ℕ) (judge : Judge) where
  -- picks have one keep
  keep_unique : (picks others keep kept : List ℕ) → picks ≡ others → IsKeep trace threads judge picks keep → IsKeep trace threads judge others kept → keep ≡ kept
  keep_unique picks others keep kept same a b =
      let c = subst (λ (p : List ℕ). IsKeep trace threads judge p kept) (sym same) b in
      let long = a.size in
      let long' = b.size in
      ext_get_or 0 keep kept (long ∙ sym long') (λ t less. count_unique (λ p. (thread_at trace p ≡ Some t) × judge.needed picks p) _ _ (a.counts t (omega arith)) (c.counts t (omega arith)))

  -- a place has one race
  race_unique : (a b : FoundRace) → a.later ≡ b.later → IsFoundRace trace threads judge a → IsFoundRace trace threads judge b → a ≡ b
  race_unique a b same x y =
      let earlier = go (three_way a.earlier b.earlier) in
      let picks : a.earlier ∷ a.later ∷ [] ≡ b.earlier ∷ b.later ∷ [] = cc in
      let keep = keep_unique (a.earlier ∷ a.later ∷ []) (b.earlier ∷ b.later ∷ []) a.keep b.keep picks x.keep y.keep in
      λ i. record { later = same i; earlier = earlier i; keep = keep i }
    where
      go : (a.earlier < b.earlier) ⊎ ((a.earlier ≡ b.earlier) ⊎ (b.earlier < a.earlier)) → a.earlier ≡ b.earlier
      go (inl less) = absurd (y.earliest a.earlier less (subst (RaceBy trace judge a.earlier) same x.race))
      go (inr (inl e)) = e
      go (inr (inr less)) = absurd (x.earliest b.earlier less (subst (RaceBy trace judge b.earlier) (sym same) y.race))

  -- a pattern has one deadlock
  deadlock_unique : (pattern : List Class) (a b : FoundDeadlock) → IsFoundDeadlock trace threads judge pattern a → IsFoundDeadlock trace threads judge pattern b → a ≡ b
  deadlock_unique pattern a b x y =
      let picks = both_at_most a.picks b.picks (x.least b.picks y.deadlock) (y.least a.picks x.deadlock) in
      let keep = keep_unique a.picks b.picks a.keep b.keep picks x.keep y.keep in
      λ i. record { picks = picks i; keep = keep i }

  -- patterns have one list of deadlocks
  deadlocks_unique : (patterns : List (List Class)) (xs ys : List FoundDeadlock) → AllZip (IsFoundDeadlock trace threads judge) patterns xs → AllZip (IsFoundDeadlock trace threads judge) patterns ys → xs ≡ ys
  deadlocks_unique [] [] [] h k = refl
  deadlocks_unique [] [] (y ∷ ys) h k = absurd k
  deadlocks_unique [] (x ∷ xs) ys h k = absurd h
  deadlocks_unique (p ∷ ps) [] ys h k = absurd h
  deadlocks_unique (p ∷ ps) (x ∷ xs) [] h k = absurd k
  deadlocks_unique (p ∷ ps) (x ∷ xs) (y ∷ ys) h k = let first = deadlock_unique p x y h.0 k.0 in let rest = deadlocks_unique ps xs ys h.1 k.1 in cc

  -- a race of one list is one of the other
  races_are : (one other : Found) → AreFindings trace threads size judge one → AreFindings trace threads size judge other → (r : FoundRace) → Contains one.races r → Contains other.races r
  races_are one other a b r c =
      let is = is_race one a r c in
      let found = of_image (λ (f : FoundRace). f.later) other.races r.later (b.all_races r.earlier r.later is.order is.race) in
      subst (Contains other.races) (race_unique found.0 r found.2 (is_race other b found.0 found.1) is) found.1
    where
      is_race : (f : Found) → AreFindings trace threads size judge f → (s : FoundRace) → Contains f.races s → IsFoundRace trace threads judge s
      is_race f x s at = subst (IsFoundRace trace threads judge) at.2 (x.races at.0 s at.1)

  -- the lists are equal
  found_unique : (one other : Found) → AreFindings trace threads size judge one → AreFindings trace threads size judge other → one ≡ other
  found_unique one other a b =
      let races = ordered_unique (λ (x y : FoundRace). x.later < y.later) (λ x y up down. omega arith) one.races other.races a.race_order b.race_order (races_are one other a b) (races_are other one b a) in
      let patterns = ordered_unique ComesBefore before_one_way a.patterns b.patterns a.pattern_order b.pattern_order (λ p c. (b.members p).1 ((a.members p).0 c)) (λ p c. (a.members p).1 ((b.members p).0 c)) in
      let of_other = subst (λ (ps : List (List Class)). AllZip (IsFoundDeadlock trace threads judge) ps other.deadlocks) (sym patterns) b.deadlocks in
      let deadlocks = deadlocks_unique a.patterns one.deadlocks other.deadlocks a.deadlocks of_other in
      λ i. record { races = races i; deadlocks = deadlocks i }

-- what is found in a trace by a judge determines its list
pub findings_are_determined_lem : (judged_by : List Event → Judge) → FindingsAreDetermined judged_by
findings_are_determined_lem judged_by trace threads size one other a b = found_unique trace threads size (judged_by trace) one other a b
