-- What stands in a list that was changed.
use Rattle.std.proofs.Common.{◌≡◌, ◌≢◌, ℕ, zero, suc, List, [], ◌∷◌, ◌++◌, length, Some, ◌⊎◌, inl, inr, refl, arith}
use Rattle.std.specs.Prelude.{slice_get, slice_set}

module _ {A : Type 0} where
  -- in one where an element was set
  pub get_set : (xs : List A) (i j : ℕ) (x y : A) → slice_get (slice_set xs i x) j ≡ Some y → ((j ≡ i) × (x ≡ y)) ⊎ ((j ≢ i) × (slice_get xs j ≡ Some y))
  get_set [] i j x y at = absurd (cc)
  get_set (z ∷ zs) zero zero x y at = inl (refl, cc)
  get_set (z ∷ zs) zero (suc j) x y at = inr ((λ same. omega arith), at)
  get_set (z ∷ zs) (suc i) zero x y at = inr ((λ same. omega arith), at)
  get_set (z ∷ zs) (suc i) (suc j) x y at = elim (get_set zs i j x y at) [
    | inl here ↦ inl ((let same = here.0 in omega arith), here.1)
    | inr else ↦ inr ((λ same. else.0 (omega arith)), else.1)
  ]

  -- in one with one element more
  pub get_push : (xs : List A) (x y : A) (k : ℕ) → slice_get (xs ++ x ∷ []) k ≡ Some y → (slice_get xs k ≡ Some y) ⊎ ((k ≡ length xs) × (x ≡ y))
  get_push [] x y zero at = inr (refl, cc)
  get_push [] x y (suc k) at = absurd (cc)
  get_push (z ∷ zs) x y zero at = inl at
  get_push (z ∷ zs) x y (suc k) at = elim (get_push zs x y k at) [ inl else ↦ inl else | inr here ↦ inr ((let last = here.0 in omega arith), here.1) ]

  -- an element stands where it stood, though one more follows
  pub get_front : (xs : List A) (x y : A) (k : ℕ) → slice_get xs k ≡ Some y → slice_get (xs ++ x ∷ []) k ≡ Some y
  get_front [] x y k at = absurd (cc)
  get_front (z ∷ zs) x y zero at = at
  get_front (z ∷ zs) x y (suc k) at = get_front zs x y k at

  -- the last element stands behind the others
  pub get_last : (xs : List A) (x : A) → slice_get (xs ++ x ∷ []) (length xs) ≡ Some x
  get_last [] x = refl
  get_last (z ∷ zs) x = get_last zs x
