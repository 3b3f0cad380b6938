-- Lists in a strict order.
use Rattle.std.proofs.Common.{◌≡◌, ℕ, zero, suc, ◌<◌, ◌≤◌, List, [], ◌∷◌, length, get_or, ◌⊎◌, inl, inr, refl, sym, subst, arith}
use Rattle.std.specs.Prelude.{Contains, AllPairs}
use Rattle.std.proofs.lemmas.Option.{slice_get-get_or}
use Rattle.trace_laws.specs.Reordering.{Rises}
use Rattle.trace_laws.proofs.Places.{three_way, contains_head, contains_tail, contains_cases, contains_none}

-- an order in which of two elements not each stands before the other
module _ {X : Type 0} (R : X → X → Type 0) (strict : (x y : X) → R x y → R y x → ⊥) where
  -- the rest of a list in the order is in it too
  rest_ordered : (x : X) (xs : List X) → AllPairs R (x ∷ xs) → AllPairs R xs
  rest_ordered x xs order i j d less within = order (suc i) (suc j) d (omega arith) (omega arith)

  -- the first element of such a list stands before the others
  first_before : (x : X) (xs : List X) → AllPairs R (x ∷ xs) → (y : X) → Contains xs y → R x y
  first_before x xs order y c = let within = c.1 in subst (R x) c.2 (order zero (suc c.0) y (omega arith) (omega arith))

  -- such lists with the same elements are equal
  pub ordered_unique : (xs ys : List X) → AllPairs R xs → AllPairs R ys → ((z : X) → Contains xs z → Contains ys z) → ((z : X) → Contains ys z → Contains xs z) → xs ≡ ys
  ordered_unique [] [] ox oy f g = refl
  ordered_unique [] (y ∷ ys) ox oy f g = absurd (contains_none y (g y (contains_head y ys)))
  ordered_unique (x ∷ xs) [] ox oy f g = absurd (contains_none x (f x (contains_head x xs)))
  ordered_unique (x ∷ xs) (y ∷ ys) ox oy f g = let same = heads in let rest = ordered_unique xs ys (rest_ordered x xs ox) (rest_ordered y ys oy) forth back in cc
    where
      heads : x ≡ y
      heads = at (contains_cases y ys x (f x (contains_head x xs))) (contains_cases x xs y (g y (contains_head y ys)))
        where
          at : (y ≡ x) ⊎ Contains ys x → (x ≡ y) ⊎ Contains xs y → x ≡ y
          at (inl e) _ = sym e
          at (inr c) (inl e) = e
          at (inr c) (inr d) = absurd (strict x y (first_before x xs ox y d) (first_before y ys oy x c))

      forth : (z : X) → Contains xs z → Contains ys z
      forth z c = at (contains_cases y ys z (f z (contains_tail x xs z c)))
        where
          at : (y ≡ z) ⊎ Contains ys z → Contains ys z
          at (inl e) = let less : R z z = subst (λ w. R w z) heads_there (first_before x xs ox z c) in absurd (strict z z less less)
            where
              heads_there : x ≡ z
              heads_there = let same = heads in cc
          at (inr d) = d

      back : (z : X) → Contains ys z → Contains xs z
      back z c = at (contains_cases x xs z (g z (contains_tail y ys z c)))
        where
          at : (x ≡ z) ⊎ Contains xs z → Contains xs z
          at (inl e) = let less : R z z = subst (λ w. R w z) heads_there (first_before y ys oy z c) in absurd (strict z z less less)
            where
              heads_there : y ≡ z
              heads_there = let same = heads in cc
          at (inr d) = d

-- a list that rises is in the order of numbers
rises_ordered : (xs : List ℕ) → Rises xs → AllPairs (λ a b. a < b) xs
rises_ordered xs rises i j d less within = rises i j _ _ less (slice_get-get_or xs i d (omega arith)) (slice_get-get_or xs j d within)

-- a list that rises does not fall
pub rising : (xs : List ℕ) → Rises xs → (i j : ℕ) → i ≤ j → j < length xs → get_or xs i 0 ≤ get_or xs j 0
rising xs rises i j le within = go (three_way i j)
  where
    go : (i < j) ⊎ ((i ≡ j) ⊎ (j < i)) → get_or xs i 0 ≤ get_or xs j 0
    go (inl less) = let up = rises_ordered xs rises i j 0 less within in omega arith
    go (inr (inl same)) = subst (λ (k : ℕ). get_or xs i 0 ≤ get_or xs k 0) same (omega arith)
    go (inr (inr more)) = absurd (omega arith)

-- lists that rise and have the same elements are equal
pub rising_unique : (xs ys : List ℕ) → Rises xs → Rises ys → ((p : ℕ) → Contains xs p → Contains ys p) → ((p : ℕ) → Contains ys p → Contains xs p) → xs ≡ ys
rising_unique xs ys rx ry f g = ordered_unique (λ a b. a < b) (λ a b up down. omega arith) xs ys (rises_ordered xs rx) (rises_ordered ys ry) f g
