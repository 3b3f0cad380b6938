-- What the loops over a lock's seats keep.
use Rattle.std.proofs.Common.{◌≡◌, ℕ, zero, suc, ◌+◌, ◌-◌, ◌<◌, ◌⊎◌, List, [], ◌∷◌, ◌++◌, length, refl, ap, ◌∙◌, subst, arith, inl, inr, Option, Some, None, length-append}
use Rattle.std.specs.Prelude.{slice_get, All}
use Rattle.std.proofs.Math.ListN.{get_or-append}
use Rattle.std.proofs.Math.Seq.{get_or-append_seam}
use Rattle.std.proofs.lemmas.List.Elements.{All-append}
use Rattle.seat_lock.specs.Tallies.{Pairs, fresh, head_pairs, tail_pairs, HasFirst}
use Rattle.seat_lock.specs.Views.{view, without_first, first_alone}
use Rattle.seat_lock.specs.Steps.{Seated}

-- numbers that come behind others leave a first one where there was one
pub first_stays : (ps qs : Pairs) → HasFirst ps → HasFirst (ps ++ qs)
first_stays [] qs has = absurd (cc)
first_stays (p ∷ ps) qs has = refl

-- the first of some fresh numbers, and those after it
unrolled : (k n : ℕ) → k < n → fresh k (n - k) ≡ (k, 0) ∷ fresh (k + 1) (n - (k + 1))
unrolled k n less = let more : n - k ≡ suc (n - (k + 1)) = omega arith in let next : suc k ≡ k + 1 = omega arith in
    ap (fresh k) more ∙ (λ i. (k, 0) ∷ fresh (next i) (n - (k + 1)))

module _ {S : Type 0} where
  -- what is left to the lock's own seat when number k is cut off
  pub cut_own : (k n : ℕ) (last : Pairs) (origin : Option S) (before after : Seated S) → k < n → before ≡ (view (fresh k (n - k) ++ last) None origin, []) → after ≡ (without_first before.0, before.1)
      → after ≡ (view (fresh (k + 1) (n - (k + 1)) ++ last) None origin, [])
  cut_own k n last origin before after less is next = next ∙ (λ i. (without_first ((is i).0), (is i).1)) ∙ (λ i. (view (tail_pairs (unrolled k n less i ++ last)) None origin, []))

  -- what the seat of number k begins with
  pub cut_seat : (k n : ℕ) (last : Pairs) (origin : Option S) (before after : Seated S) → k < n → before ≡ (view (fresh k (n - k) ++ last) None origin, []) → after ≡ (first_alone before.0, [])
      → after ≡ (view ((k, 0) ∷ []) None origin, [])
  cut_seat k n last origin before after less is next = next ∙ (λ i. (first_alone ((is i).0), [])) ∙ (λ i. (view (head_pairs (unrolled k n less i ++ last)) None origin, []))

module _ {A : Type 0} where
  -- an item of a list that has grown by one
  pub get_snoc : (xs : List A) (x y : A) (k : ℕ) → slice_get (xs ++ x ∷ []) k ≡ Some y → (slice_get xs k ≡ Some y) ⊎ ((k ≡ length xs) × (x ≡ y))
  get_snoc [] x y zero at = inr (refl, cc)
  get_snoc [] x y (suc k) at = absurd (cc)
  get_snoc (z ∷ zs) x y zero at = inl at
  get_snoc (z ∷ zs) x y (suc k) at = elim (get_snoc zs x y k at) [ inl else ↦ inl else | inr here ↦ inr ((let last = here.0 in omega arith), here.1) ]

  module _ (P : A → Type 0) where
    -- what holds of all items holds of those before the last
    pub all_front : (xs : List A) (x : A) → All P (xs ++ x ∷ []) → All P xs
    all_front xs x all k d less = let more = length-append xs (x ∷ []) in subst P (get_or-append xs (x ∷ []) d k less) (all k d (omega arith))

    -- and of the last
    pub all_last : (xs : List A) (x : A) → All P (xs ++ x ∷ []) → P x
    all_last xs x all = let more = length-append xs (x ∷ []) in subst P (get_or-append_seam xs x [] x) (all (length xs) x (omega arith))

    -- one item
    all_one : (x : A) → P x → All P (x ∷ [])
    all_one x holds zero d less = holds
    all_one x holds (suc k) d less = absurd (omega arith)

    -- one item more
    pub all_more : (xs : List A) (x : A) → All P xs → P x → All P (xs ++ x ∷ [])
    all_more xs x all holds = All-append P xs (x ∷ []) all (all_one x holds)
