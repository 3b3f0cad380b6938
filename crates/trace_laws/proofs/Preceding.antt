-- The order of patterns is strict.
use Rattle.std.proofs.Common.{◌≡◌, ℕ, ◌<◌, List, map, ◌⊎◌, inl, inr, sym, subst, arith}
use Rattle.std.specs.Prelude.{slice_index}
use Rattle.trace_laws.specs.Patterns.{Class, first_place, ComesBefore}
use Rattle.trace_laws.proofs.Places.{three_way}

-- the first number in which two lists differ is less in the one
abbrev pub Lexically : List ℕ → List ℕ → Type 0
Lexically xs ys = (i : ℕ) × (slice_index xs i < slice_index ys i) × ((k : ℕ) → k < i → slice_index xs k ≡ slice_index ys k)

-- not in both
pub lexically_one_way : (xs ys : List ℕ) → Lexically xs ys → Lexically ys xs → ⊥
lexically_one_way xs ys x y = go (three_way x.0 y.0)
  where
    go : (x.0 < y.0) ⊎ ((x.0 ≡ y.0) ⊎ (y.0 < x.0)) → ⊥
    go (inl less) = let same = y.2 x.0 less in let up = x.1 in omega arith
    go (inr (inl same)) = let up = x.1 in let down : slice_index ys x.0 < slice_index xs x.0 = subst (λ (k : ℕ). slice_index ys k < slice_index xs k) (sym same) y.1 in omega arith
    go (inr (inr more)) = let same = x.2 y.0 more in let down = y.1 in omega arith

-- of two patterns only one comes before the other
pub before_one_way : (p q : List Class) → ComesBefore p q → ComesBefore q p → ⊥
before_one_way p q (inl x) (inl y) = omega arith
before_one_way p q (inl x) (inr y) = let same = y.0 in omega arith
before_one_way p q (inr x) (inl y) = let same = x.0 in omega arith
before_one_way p q (inr x) (inr y) = lexically_one_way (map first_place p) (map first_place q) x.1 y.1
