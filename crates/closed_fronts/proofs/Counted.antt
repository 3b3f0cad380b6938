-- The places of a thread below its cut are counted.
use Rattle.std.proofs.Common.{◌≡◌, ◌≢◌, ℕ, zero, suc, ◌+◌, ◌<◌, ◌≤◌, List, [], ◌∷◌, length, Option, Some, None, ◌⊎◌, inl, inr, refl, sym, ap, subst, ◌∙◌, arith}
use Rattle.std.specs.Prelude.{slice_get, slice_index}
use Rattle.std.proofs.lemmas.Bool.{cases_eq}
use Rattle.trace_laws.specs.Event.{Event}
use Rattle.trace_laws.specs.Trace.{thread_at}
use Rattle.trace_laws.specs.Kept.{count_of, local_of}
use Rattle.trace_laws.specs.Findings.{HasCount}
use Rattle.trace_laws.proofs.Places.{mapped_from, thread_from_event, within_from_thread}
use Rattle.closed_fronts.proofs.Numbering.{count_own, count_other, local_here}
use Rattle.closed_fronts.specs.Members.{has, IsMemberOf, AreCounts}
use Rattle.closed_fronts.specs.Cuts.{flags_of}
use Rattle.closed_fronts.proofs.Flags.{held_from_has, has_from_held}
use Rattle.closed_fronts.proofs.Counts.{count_under, count_none, count_more}
use Rattle.closed_fronts.specs.Rows.{IsBelowCut}
use Rattle.closed_fronts.proofs.Mends.{held_below}

-- a place of the trace has an event
pub entry_at : (events : List Event) (n : ℕ) → n < length events → (e : Event) × (slice_get events n ≡ Some e)
entry_at [] n less = absurd (omega arith)
entry_at (x ∷ xs) zero less = (x, refl)
entry_at (x ∷ xs) (suc n) less = entry_at xs n (omega arith)

-- how many places of a thread stand before a place
pub count_below : (events : List Event) (t n : ℕ) → n ≤ length events → HasCount (IsBelowCut events t n) (count_of events t n)
count_below events t zero le = count_none (IsBelowCut events t 0) (λ p h. let b = h.below in omega arith)
count_below events t (suc n) le = go (count_below events t n (omega arith)) (slice_get events n) refl
  where
    step : (k : ℕ) → k ≡ suc n → (m : ℕ) → count_of events t k ≡ m → HasCount (IsBelowCut events t k) m → HasCount (IsBelowCut events t (suc n)) (count_of events t (suc n))
    step k same m is h = subst (λ (j : ℕ). HasCount (IsBelowCut events t j) (count_of events t j)) same (subst (λ (j : ℕ). HasCount (IsBelowCut events t k) j) (sym is) h)

    go : HasCount (IsBelowCut events t n) (count_of events t n) → (o : Option Event) → slice_get events n ≡ o → HasCount (IsBelowCut events t (suc n)) (count_of events t (suc n))
    go h None at = let entry = entry_at events n (omega arith) in let some = entry.1 in cc
    go h (Some e) at = split (cases_eq e.thread t)
      where
        split : (e.thread ≡ t) ⊎ (e.thread ≢ t) → HasCount (IsBelowCut events t (suc n)) (count_of events t (suc n))
        split (inl own) = step (n + 1) (omega arith) (count_of events t n + 1) (count_own events n t e at own) (count_more (IsBelowCut events t n) (IsBelowCut events t (n + 1)) n (count_of events t n) (λ p. (λ q. down p q (cases_eq p n), up p)) (λ p q. q.below) h)
          where
            mine : thread_at events n ≡ Some t
            mine = thread_from_event events n e at ∙ ap Some own

            down : (p : ℕ) → IsBelowCut events t (n + 1) p → (p ≡ n) ⊎ (p ≢ n) → IsBelowCut events t n p ⊎ (p ≡ n)
            down p q (inl same) = inr same
            down p q (inr other) = inl (record { is_of = q.is_of; below = let b = q.below in omega (arith, other) })

            up : (p : ℕ) → IsBelowCut events t n p ⊎ (p ≡ n) → IsBelowCut events t (n + 1) p
            up p (inl q) = record { is_of = q.is_of; below = let b = q.below in omega arith }
            up p (inr same) = record { is_of = subst (λ (k : ℕ). thread_at events k ≡ Some t) (sym same) mine; below = omega arith }
        split (inr other) = step (n + 1) (omega arith) (count_of events t n) (count_other events n t e at other) (count_under (IsBelowCut events t n) (IsBelowCut events t (n + 1)) (count_of events t n) (λ p. (λ q. record { is_of = q.is_of; below = let b = q.below in omega arith }, λ q. down p q (cases_eq p n))) h)
          where
            down : (p : ℕ) → IsBelowCut events t (n + 1) p → (p ≡ n) ⊎ (p ≢ n) → IsBelowCut events t n p
            down p q (inl same) = absurd (other (let x = thread_from_event events n e at in let y : thread_at events n ≡ Some t = subst (λ (k : ℕ). thread_at events k ≡ Some t) same q.is_of in let z : e.thread ≡ t = cc in z))
            down p q (inr apart) = record { is_of = q.is_of; below = let b = q.below in omega (arith, apart) }

-- the number of the last place below a cut, and one more
pub count_last : (events : List Event) (t k n : ℕ) → thread_at events k ≡ Some t → n ≡ local_of events k + 1 → HasCount (IsBelowCut events t (k + 1)) n
count_last events t k n own is = subst (λ (m : ℕ). HasCount (IsBelowCut events t (k + 1)) m) (sym same) (count_below events t (k + 1) (let less = within_from_thread events k t own in omega arith))
  where
    same : n ≡ count_of events t (k + 1)
    same =
        let found = mapped_from (λ (x : Event). x.thread) (slice_get events k) t own in
        let here : local_of events k ≡ count_of events t k = local_here events k found.0 found.1 ∙ ap (λ (u : ℕ). count_of events u k) found.2 in
        let next = count_own events k t found.0 found.1 found.2 in
        omega arith

-- nothing is below the cut 0
pub count_nothing : (events : List Event) (t : ℕ) → HasCount (IsBelowCut events t 0) 0
count_nothing events t = count_none (IsBelowCut events t 0) (λ p h. let b = h.below in omega arith)

-- counts of all threads
pub counts_from : (events : List Event) (threads : ℕ) (cuts counts : List ℕ) → length counts ≡ threads → ((t : ℕ) → t < threads → HasCount (IsBelowCut events t (slice_index cuts t)) (slice_index counts t)) → AreCounts events threads (has (flags_of events cuts)) counts
counts_from events threads cuts counts size each = record {
  size = size;
  members = λ t less. count_under (IsBelowCut events t (slice_index cuts t)) (IsMemberOf events t (has (flags_of events cuts))) (slice_index counts t)
      (λ p. (λ h. (h.is_of, has_from_held events cuts p (record { thread = t; is_of = h.is_of; below = h.below })), λ h. record { is_of = h.0; below = held_below events cuts t p h.0 (held_from_has events cuts p h.1) })) (each t less);
}

-- counts of the empty set
pub counts_empty : (events : List Event) (threads : ℕ) (cuts counts : List ℕ) → length counts ≡ threads → ((t : ℕ) → slice_index cuts t ≡ 0) → ((t : ℕ) → slice_index counts t ≡ 0) → AreCounts events threads (has (flags_of events cuts)) counts
counts_empty events threads cuts counts size none zero_each = counts_from events threads cuts counts size (λ t less.
    subst (λ (n : ℕ). HasCount (IsBelowCut events t (slice_index cuts t)) n) (sym (zero_each t)) (subst (λ (n : ℕ). HasCount (IsBelowCut events t n) 0) (sym (none t)) (count_nothing events t)))
