-- Where rows lie in a region.
use Rattle.std.proofs.Common.{◌≡◌, ◌≢◌, ℕ, suc, ◌+◌, ◌*◌, ◌<◌, ◌≤◌, max, Bool, true, false, List, [], ◌∷◌, Some, refl, ap, subst, ◌∙◌, ◌⊎◌, inl, inr, arith}
use Rattle.std.specs.Prelude.{not, count_by, slice_get, slice_index}
use Rattle.std.proofs.Math.Nat.{mul-le-mul_right}
use Rattle.stamp_pool.specs.Rows.{Region, Row, count_at, SetsRow, Raises}

-- less, equal or greater
three_way : (a b : ℕ) → (a < b) ⊎ ((a ≡ b) ⊎ (b < a))
three_way a b = grind arith

-- a row ends where the next one begins, or before
pub row_ends : (place next width : ℕ) → place < next → place * width + width ≤ next * width
row_ends place next width less =
    let whole : (place + 1) * width ≤ next * width = mul-le-mul_right width (omega arith) in
    let one : (place + 1) * width ≡ place * width + width = omega arith in
    omega arith

-- a row that is there lies in the region
pub row_within : (place rows width size : ℕ) → place < rows → size ≡ rows * width → place * width + width ≤ size
row_within place rows width size less is = let ends = row_ends place rows width less in omega arith

module _ (old : Region) (place : ℕ) (count : ℕ → ℕ) (lent : List Bool) (was new : List ℕ) (start width : ℕ) (same : was ≡ old.counts) (wide : width ≡ old.width) (from : start ≡ place * old.width)
    (own : (i : ℕ) → i < width → slice_index new (start + i) ≡ count i)
    (before : (k : ℕ) → k < start → slice_index new k ≡ slice_index was k)
    (behind : (k : ℕ) → start + width ≤ k → slice_index new k ≡ slice_index was k) where
  abbrev new_region : Region
  new_region = record { name = old.name; width = old.width; lent = lent; counts = new }

  rest : (other i : ℕ) → i < old.width → (other < place) ⊎ ((other ≡ place) ⊎ (place < other)) → other ≢ place → slice_index new (other * old.width + i) ≡ slice_index old.counts (other * old.width + i)
  rest other i less (inl h) else =
      let ends = row_ends other place old.width h in
      before (other * old.width + i) (omega arith) ∙ ap (λ (l : List ℕ). slice_index l (other * old.width + i)) same
  rest other i less (inr (inl h)) else = absurd (else h)
  rest other i less (inr (inr h)) else =
      let ends = row_ends place other old.width h in
      behind (other * old.width + i) (omega arith) ∙ ap (λ (l : List ℕ). slice_index l (other * old.width + i)) same

  -- a row that alone was written is set
  pub sets_row : SetsRow old place count new_region
  sets_row = record {
    name = refl;
    width = refl;
    own = λ i less. subst (λ (k : ℕ). slice_index new (k + i) ≡ count i) from (own i (omega arith));
    others = λ other i else less. rest other i less (three_way other place) else;
  }

-- so is one whose counts became the greater ones
pub raises_row : (old : Region) (row : Row) (counts : ℕ → ℕ) (was new : List ℕ) (start width : ℕ) → was ≡ old.counts → width ≡ old.width → start ≡ row.place * old.width
    → ((i : ℕ) → i < width → slice_index new (start + i) ≡ max (slice_index was (start + i)) (counts i))
    → ((k : ℕ) → k < start → slice_index new k ≡ slice_index was k)
    → ((k : ℕ) → start + width ≤ k → slice_index new k ≡ slice_index was k)
    → Raises old row counts (record { name = old.name; width = old.width; lent = old.lent; counts = new })
raises_row old row counts was new start width same wide from own before behind = record {
  lent = refl;
  greater = sets_row old row.place (λ i. max (count_at old row.place i) (counts i)) old.lent was new start width same wide from each before behind;
}
  where
    each : (i : ℕ) → i < width → slice_index new (start + i) ≡ max (count_at old row.place i) (counts i)
    each i less = own i less ∙ ap (λ (l : List ℕ). max (slice_index l (start + i)) (counts i)) same ∙ ap (λ (k : ℕ). max (slice_index old.counts (k + i)) (counts i)) from

-- where no row is free, none is counted
pub none_free : (lent : List Bool) → ((k : ℕ) → slice_get lent k ≡ Some false → ⊥) → count_by not lent ≡ 0
none_free [] never = refl
none_free (true ∷ lent) never = none_free lent (λ k at. never (suc k) at)
none_free (false ∷ lent) never = absurd (never 0 refl)
