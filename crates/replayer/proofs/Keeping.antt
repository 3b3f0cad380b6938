-- Keeping the first events of each thread, place by place.
use Rattle.std.proofs.Common.{◌≡◌, ◌≢◌, ℕ, zero, suc, ◌+◌, ◌-◌, ◌<◌, ◌≤◌, List, [], ◌∷◌, ◌++◌, length, take, cond, get_or, Some, ◌⊎◌, inl, inr, refl, sym, ap, subst, ◌∙◌, arith}
use Rattle.std.specs.Prelude.{Contains, sum, count_by, ◌↔◌, ◌==◌, slice_get, slice_set, slice_index}
use Rattle.std.proofs.Math.ListN.{length-set}
use Rattle.std.proofs.lemmas.Bool.{cases_eq, cases_lt}
use Rattle.std.proofs.lemmas.Option.{slice_get_within, get_or_from_slice_get}
use Rattle.std.proofs.lemmas.List.{get_or_past}
use Rattle.std.proofs.lemmas.List.Sums.{sum_by-set, sum_by-take-le}
use Rattle.std.proofs.lemmas.List.Elements.{Contains-push, Contains-push_cases, Contains-append_left}
use Rattle.trace_laws.specs.Event.{Event}
use Rattle.trace_laws.specs.Trace.{thread_at}
use Rattle.trace_laws.specs.Reordering.{Rises}
use Rattle.trace_laws.specs.Kept.{count_of, local_of, IsKept, AreKept}
use Rattle.trace_laws.proofs.Places.{within_from_thread, false_unless}
use Rattle.trace_laws.proofs.Enabling.{Rises-push}
use Rattle.trace_laws.proofs.Counting.{one_if, tally}
use Rattle.trace_laws.proofs.Growing.{slice_get-set_same, slice_get-set_other}
use Rattle.replayer.proofs.Tallied.{is_own, own_from_thread, thread_from_own, count_is_tally, local_is_tally}

-- what is still to be kept of each thread from place n on, and the kept places before it
pub record AreKeptBefore (trace : List Event) (keep : List ℕ) (n : ℕ) (left places : List ℕ) : Type 0 where
  pub size : length left ≡ length keep
  pub rest : (t k : ℕ) → slice_get left t ≡ Some k → k ≡ slice_index keep t - count_of trace t n
  pub order : Rises places
  pub members : (p : ℕ) → Contains places p ↔ ((p < n) × IsKept trace keep p)

-- the event at place n is of thread t
module _ (trace : List Event) (keep : List ℕ) (n t : ℕ) (own : thread_at trace n ≡ Some t) where
  -- the place is one of the trace
  within : n < length trace
  within = within_from_thread trace n t own

  -- the thread has one event more
  count_own : count_of trace t (n + 1) ≡ count_of trace t n + 1
  count_own =
      let inside = within in
      let before : count_of trace t n ≡ tally n (is_own trace t) = count_is_tally (λ (e : Event). e.thread == t) trace n (omega arith) in
      let after : count_of trace t (suc n) ≡ one_if (is_own trace t n) + tally n (is_own trace t) = count_is_tally (λ (e : Event). e.thread == t) trace (suc n) (omega arith) in
      let here : one_if (is_own trace t n) ≡ 1 = ap one_if (own_from_thread trace t n own) in
      let same : count_of trace t (n + 1) ≡ count_of trace t (suc n) = (let one : n + 1 ≡ suc n = omega arith in ap (count_of trace t) one) in
      omega arith

  -- any other has not
  count_other : (u : ℕ) → u ≢ t → count_of trace u (n + 1) ≡ count_of trace u n
  count_other u other =
      let inside = within in
      let before : count_of trace u n ≡ tally n (is_own trace u) = count_is_tally (λ (e : Event). e.thread == u) trace n (omega arith) in
      let after : count_of trace u (suc n) ≡ one_if (is_own trace u n) + tally n (is_own trace u) = count_is_tally (λ (e : Event). e.thread == u) trace (suc n) (omega arith) in
      let here : one_if (is_own trace u n) ≡ 0 = ap one_if (false_unless (is_own trace u n) (λ h. other (let there = thread_from_own trace u n h in let is = own in let same : u ≡ t = cc in same))) in
      let same : count_of trace u (n + 1) ≡ count_of trace u (suc n) = (let one : n + 1 ≡ suc n = omega arith in ap (count_of trace u) one) in
      omega arith

  -- the number of the place within its thread
  local_here : local_of trace n ≡ count_of trace t n
  local_here = let inside = within in local_is_tally trace t n own (omega arith) ∙ sym (count_is_tally (λ (e : Event). e.thread == t) trace n (omega arith))

  -- the kept places before place n
  module _ (left places : List ℕ) (k : ℕ) (at : slice_get left t ≡ Some k) (old : AreKeptBefore trace keep n left places) where
    -- what is left of the thread
    is_left : k ≡ slice_index keep t - count_of trace t n
    is_left = old.rest t k at

    -- where none of the thread is left, the place is not kept
    pub kept_past : k ≡ 0 → AreKeptBefore trace keep (n + 1) left places
    kept_past none = record {
      size = old.size;
      rest = λ u m there. going u m there (cases_eq u t);
      order = old.order;
      members = λ p. (λ c. let h = (old.members p).0 c in (let less = h.0 in omega arith, h.1), λ h. back p h (cases_eq p n));
    }
      where
        going : (u m : ℕ) → slice_get left u ≡ Some m → (u ≡ t) ⊎ (u ≢ t) → m ≡ slice_index keep u - count_of trace u (n + 1)
        going u m there (inl same) =
            let here : slice_get left t ≡ Some m = subst (λ (v : ℕ). slice_get left v ≡ Some m) same there in
            let is : m ≡ k = cc in
            let before = is_left in
            let more = count_own in
            let done : m ≡ slice_index keep t - count_of trace t (n + 1) = omega arith in
            subst (λ (v : ℕ). m ≡ slice_index keep v - count_of trace v (n + 1)) (sym same) done
        going u m there (inr other) = old.rest u m there ∙ ap (λ (c : ℕ). slice_index keep u - c) (sym (count_other u other))

        back : (p : ℕ) → (p < n + 1) × IsKept trace keep p → (p ≡ n) ⊎ (p ≢ n) → Contains places p
        back p h (inl same) = absurd (not_here (subst (IsKept trace keep) same h.1))
          where
            not_here : IsKept trace keep n → ⊥
            not_here is =
                let there = is.is_of in
                let mine = own in
                let thread : is.thread ≡ t = cc in
                let below : local_of trace n < slice_index keep t = subst (λ (v : ℕ). local_of trace n < slice_index keep v) thread is.below in
                let number = local_here in
                let before = is_left in
                omega arith
        back p h (inr place) = (old.members p).1 (let less = h.0 in omega (arith, place), h.1)

    -- where some is left, it is
    pub kept_next : 0 < k → AreKeptBefore trace keep (n + 1) (slice_set left t (k - 1)) (places ++ n ∷ [])
    kept_next some = record {
      size = length-set left t (k - 1) ∙ old.size;
      rest = λ u m there. going u m there (cases_eq u t);
      order = Rises-push places n old.order (λ i c. ((old.members i).0 c).0);
      members = λ p. (λ c. forth p (Contains-push_cases places n p c), λ h. back p h (cases_eq p n));
    }
      where
        going : (u m : ℕ) → slice_get (slice_set left t (k - 1)) u ≡ Some m → (u ≡ t) ⊎ (u ≢ t) → m ≡ slice_index keep u - count_of trace u (n + 1)
        going u m there (inl same) =
            let now : slice_get (slice_set left t (k - 1)) t ≡ Some (k - 1) = slice_get-set_same left t (k - 1) (slice_get_within left t k at) in
            let here : slice_get (slice_set left t (k - 1)) t ≡ Some m = subst (λ (v : ℕ). slice_get (slice_set left t (k - 1)) v ≡ Some m) same there in
            let is : m ≡ k - 1 = cc in
            let before = is_left in
            let more = count_own in
            let done : m ≡ slice_index keep t - count_of trace t (n + 1) = omega arith in
            subst (λ (v : ℕ). m ≡ slice_index keep v - count_of trace v (n + 1)) (sym same) done
        going u m there (inr other) = old.rest u m (sym (slice_get-set_other left t u (k - 1) other) ∙ there) ∙ ap (λ (c : ℕ). slice_index keep u - c) (sym (count_other u other))

        here : IsKept trace keep n
        here = record { thread = t; is_of = own; below = let number = local_here in let before = is_left in omega arith }

        forth : (p : ℕ) → Contains places p ⊎ (n ≡ p) → (p < n + 1) × IsKept trace keep p
        forth p (inl c) = let h = (old.members p).0 c in (let less = h.0 in omega arith, h.1)
        forth p (inr same) = subst (λ (q : ℕ). (q < n + 1) × IsKept trace keep q) same (omega arith, here)

        back : (p : ℕ) → (p < n + 1) × IsKept trace keep p → (p ≡ n) ⊎ (p ≢ n) → Contains (places ++ n ∷ []) p
        back p h (inl same) = subst (λ (q : ℕ). Contains (places ++ n ∷ []) q) (sym same) (Contains-push places n)
        back p h (inr place) = Contains-append_left places (n ∷ []) p ((old.members p).1 (let less = h.0 in omega (arith, place), h.1))

-- the kept places before the end of the trace are all
pub all_kept : (trace : List Event) (keep : List ℕ) (n : ℕ) (left places : List ℕ) → length trace ≤ n → AreKeptBefore trace keep n left places → AreKept trace keep places
all_kept trace keep n left places all kept = record {
  order = kept.order;
  members = λ p. (λ c. ((kept.members p).0 c).1, λ is. (kept.members p).1 (let inside = within_from_thread trace p is.thread is.is_of in omega arith, is));
}

-- the front of a longer front
take-take : {X : Type 0} (xs : List X) (n p : ℕ) → n ≤ p → take n (take p xs) ≡ take n xs
take-take xs zero p le = refl
take-take xs (suc n) zero le = absurd (omega arith)
take-take [] (suc n) (suc p) le = refl
take-take (x ∷ xs) (suc n) (suc p) le = ap (λ ys. x ∷ ys) (take-take xs n p (omega arith))

-- there is an element at an index, or the list ends before it
index_in : (xs : List ℕ) (i : ℕ) → ((k : ℕ) × (slice_get xs i ≡ Some k)) ⊎ (length xs ≤ i)
index_in [] i = inr (omega arith)
index_in (x ∷ xs) zero = inl (x, refl)
index_in (x ∷ xs) (suc i) = go (index_in xs i)
  where
    go : ((k : ℕ) × (slice_get xs i ≡ Some k)) ⊎ (length xs ≤ i) → ((k : ℕ) × (slice_get xs i ≡ Some k)) ⊎ (suc (length xs) ≤ suc i)
    go (inl h) = inl h
    go (inr h) = inr (omega arith)

-- an element of a list of sum 0
none_in : (xs : List ℕ) (i k : ℕ) → sum xs ≡ 0 → slice_get xs i ≡ Some k → k ≡ 0
none_in xs i k none at =
    let less = slice_get_within xs i k at in
    let read : get_or xs i k ≡ k = get_or_from_slice_get xs i k k at in
    let set = sum_by-set (λ (x : ℕ). x) xs i 0 k less in
    omega arith

-- the sum of what is left where one more event is kept
pub one_less : (left : List ℕ) (t k rest : ℕ) → slice_get left t ≡ Some k → 0 < k → rest ≡ sum left → rest - 1 ≡ sum (slice_set left t (k - 1))
one_less left t k rest at some is =
    let less = slice_get_within left t k at in
    let read : get_or left t k ≡ k = get_or_from_slice_get left t k k at in
    let set = sum_by-set (λ (x : ℕ). x) left t (k - 1) k less in
    omega arith

-- a thread has no fewer events before a later place
count_longer : (trace : List Event) (t n p : ℕ) → n ≤ p → count_of trace t n ≤ count_of trace t p
count_longer trace t n p le =
    subst (λ (xs : List Event). count_by (λ (e : Event). e.thread == t) xs ≤ count_of trace t p) (take-take trace n p le)
    (sum_by-take-le (λ (e : Event). cond (e.thread == t) 1 0) (take p trace) n)

-- where none is left, the kept places before are all
pub all_kept_early : (trace : List Event) (keep : List ℕ) (n : ℕ) (left places : List ℕ) → sum left ≡ 0 → AreKeptBefore trace keep n left places → AreKept trace keep places
all_kept_early trace keep n left places none kept = record {
  order = kept.order;
  members = λ p. (λ c. ((kept.members p).0 c).1, λ is. (kept.members p).1 (before p is (cases_lt p n), is));
}
  where
    never : (p : ℕ) (is : IsKept trace keep p) → n ≤ p → ((k : ℕ) × (slice_get left is.thread ≡ Some k)) ⊎ (length left ≤ is.thread) → ⊥
    never p is past (inl (k, at)) =
        let here : k ≡ slice_index keep is.thread - count_of trace is.thread n = kept.rest is.thread k at in
        let zero_left : k ≡ 0 = none_in left is.thread k none at in
        let more = count_longer trace is.thread n p past in
        let number = local_here trace keep p is.thread is.is_of in
        let below = is.below in
        omega arith
    never p is past (inr outside) =
        let size = kept.size in
        let nothing : slice_index keep is.thread ≡ 0 = get_or_past keep is.thread 0 (omega arith) in
        let below = is.below in
        omega arith

    before : (p : ℕ) → IsKept trace keep p → (p < n) ⊎ (n ≤ p) → p < n
    before p is (inl less) = less
    before p is (inr past) = absurd (never p is past (index_in left is.thread))
