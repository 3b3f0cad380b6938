-- Sets of locks, as lists that rise.
use Rattle.std.proofs.Common.{◌≡◌, ◌≢◌, ℕ, ◌+◌, ◌-◌, ◌<◌, ◌≤◌, Bool, List, ◌∷◌, length, get_or, Some, ◌⊎◌, inl, inr, refl, sym, ap, subst, ◌∙◌, arith}
use Rattle.std.specs.Prelude.{slice_get, Contains, ◌↔◌, IsTrue, Result, Ok, Err}
use Rattle.std.specs.Result.{is_ok}
use Rattle.std.specs.Ordering.{nat_cmp}
use Rattle.std.specs.List.Sorted.{IsPermutation, IsBinarySearchResult}
use Rattle.std.specs.List.{insert, remove}
use Rattle.std.proofs.lemmas.Bool.{cases_eq}
use Rattle.std.proofs.lemmas.Option.{slice_get_within, get_or_from_slice_get, slice_get-get_or}
use Rattle.std.proofs.lemmas.List.Edits.{get_or-insert_below, get_or-insert_at, get_or-insert_above, length-insert, length-remove, get_or-remove_below, get_or-remove_above}
use Rattle.std.proofs.lemmas.List.Sorted.{IsPermutation-insert, IsPermutation-remove, IsPermutation-sym, Contains-permutation, searched}
use Rattle.trace_laws.specs.Reordering.{Rises}
use Rattle.trace_index.specs.HeldSets.{IsAbsentBelow}
use Rattle.trace_laws.proofs.Places.{three_way, index_of, contains_at, contains_head, contains_tail, contains_cases}

-- a list rises where the numbers at its indices do
pub Rises-from_numbers : (xs : List ℕ) → ((a b : ℕ) → a < b → b < length xs → get_or xs a 0 < get_or xs b 0) → Rises xs
Rises-from_numbers xs up a b i j less at_a at_b =
    let first = get_or_from_slice_get xs a i 0 at_a in
    let second = get_or_from_slice_get xs b j 0 at_b in
    let more = up a b less (slice_get_within xs b j at_b) in
    omega arith

-- and the numbers at the indices of a list that rises do
pub numbers_rise : (xs : List ℕ) → Rises xs → (a b : ℕ) → a < b → b < length xs → get_or xs a 0 < get_or xs b 0
numbers_rise xs rises a b less within = rises a b (get_or xs a 0) (get_or xs b 0) less (slice_get-get_or xs a 0 (omega arith)) (slice_get-get_or xs b 0 within)

-- so they are in the order that a search takes
pub numbers_ordered : (xs : List ℕ) → Rises xs → (i j : ℕ) → i ≤ j → j < length xs → get_or xs i 0 ≤ get_or xs j 0
numbers_ordered xs rises i j le within = go (three_way i j)
  where
    go : (i < j) ⊎ ((i ≡ j) ⊎ (j < i)) → get_or xs i 0 ≤ get_or xs j 0
    go (inl less) = let more = numbers_rise xs rises i j less within in omega arith
    go (inr (inl same)) = subst (λ (k : ℕ). get_or xs i 0 ≤ get_or xs k 0) same (omega arith)
    go (inr (inr more)) = absurd (omega arith)

-- a number that is put between the lesser and the greater ones of a list that rises
module _ (xs : List ℕ) (i y : ℕ) (rises : Rises xs) (within : i ≤ length xs) (below : (k : ℕ) → k < i → get_or xs k 0 < y) (above : (k : ℕ) → i ≤ k → k < length xs → y < get_or xs k 0) where
  -- what stands behind it stood one before
  behind : (k : ℕ) → i < k → get_or (insert xs i y) k 0 ≡ get_or xs (k - 1) 0
  behind k less =
      let next : (k - 1) + 1 ≡ k = omega arith in
      subst (λ (m : ℕ). get_or (insert xs i y) m 0 ≡ get_or xs (k - 1) 0) next (get_or-insert_above xs i y 0 (k - 1) (omega arith) within)

  -- what stands before it stays
  before : (k : ℕ) → k < i → get_or (insert xs i y) k 0 ≡ get_or xs k 0
  before k less = get_or-insert_below xs i y 0 k less within

  -- it stands at its index
  here : (k : ℕ) → k ≡ i → get_or (insert xs i y) k 0 ≡ y
  here k same = subst (λ (m : ℕ). get_or (insert xs i y) m 0 ≡ y) (sym same) (get_or-insert_at xs i y 0 within)

  -- the list with it rises
  pub Rises-insert : Rises (insert xs i y)
  Rises-insert = Rises-from_numbers (insert xs i y) (λ a b less inside. go a b less (let size = length-insert xs i y within in omega arith) (three_way a i) (three_way b i))
    where
      go : (a b : ℕ) → a < b → b < length xs + 1 → (a < i) ⊎ ((a ≡ i) ⊎ (i < a)) → (b < i) ⊎ ((b ≡ i) ⊎ (i < b)) → get_or (insert xs i y) a 0 < get_or (insert xs i y) b 0
      go a b less inside (inl l) (inl m) = let r = numbers_rise xs rises a b less (omega arith) in rw (before a l, before b m) r
      go a b less inside (inl l) (inr (inl m)) = let r = below a l in rw (before a l, here b m) r
      go a b less inside (inl l) (inr (inr m)) = let r = below a l in let s = above (b - 1) (omega arith) (omega arith) in rw (before a l, behind b m) (omega arith)
      go a b less inside (inr (inl l)) (inl m) = absurd (omega arith)
      go a b less inside (inr (inl l)) (inr (inl m)) = absurd (omega arith)
      go a b less inside (inr (inl l)) (inr (inr m)) = let s = above (b - 1) (omega arith) (omega arith) in rw (here a l, behind b m) s
      go a b less inside (inr (inr l)) (inl m) = absurd (omega arith)
      go a b less inside (inr (inr l)) (inr (inl m)) = absurd (omega arith)
      go a b less inside (inr (inr l)) (inr (inr m)) = let r = numbers_rise xs rises (a - 1) (b - 1) (omega arith) (omega arith) in rw (behind a l, behind b m) r

-- a list with a number put in has it and what the list had
pub contains_insert : (xs : List ℕ) (i y l : ℕ) → Contains (insert xs i y) l ↔ ((l ≡ y) ⊎ Contains xs l)
contains_insert xs i y l = (λ c. forth (contains_cases y xs l (Contains-permutation (insert xs i y) (y ∷ xs) l (IsPermutation-sym (y ∷ xs) (insert xs i y) (IsPermutation-insert xs i y)) c)), λ h. Contains-permutation (y ∷ xs) (insert xs i y) l (IsPermutation-insert xs i y) (back h))
  where
    forth : (y ≡ l) ⊎ Contains xs l → (l ≡ y) ⊎ Contains xs l
    forth (inl same) = inl (sym same)
    forth (inr c) = inr c

    back : (l ≡ y) ⊎ Contains xs l → Contains (y ∷ xs) l
    back (inl same) = subst (λ (k : ℕ). Contains (y ∷ xs) k) (sym same) (contains_head y xs)
    back (inr c) = contains_tail y xs l c

-- a number that is taken out of a list that rises
module _ (xs : List ℕ) (i x : ℕ) (rises : Rises xs) (within : i < length xs) (is : get_or xs i 0 ≡ x) where
  -- the list without it rises
  pub Rises-remove : Rises (remove xs i)
  Rises-remove = Rises-from_numbers (remove xs i) (λ a b less inside. go a b less (let size = length-remove xs i within in omega arith) (three_way a i) (three_way b i))
    where
      at_low : (k : ℕ) → k < i → get_or (remove xs i) k 0 ≡ get_or xs k 0
      at_low k less = get_or-remove_below xs i 0 k less within

      at_high : (k : ℕ) → i ≤ k → get_or (remove xs i) k 0 ≡ get_or xs (k + 1) 0
      at_high k le = get_or-remove_above xs i 0 k le within

      go : (a b : ℕ) → a < b → b + 1 < length xs → (a < i) ⊎ ((a ≡ i) ⊎ (i < a)) → (b < i) ⊎ ((b ≡ i) ⊎ (i < b)) → get_or (remove xs i) a 0 < get_or (remove xs i) b 0
      go a b less inside (inl l) (inl m) = rw (at_low a l, at_low b m) (numbers_rise xs rises a b less (omega arith))
      go a b less inside (inl l) (inr m) = let le : i ≤ b = (let h = m in omega arith) in rw (at_low a l, at_high b le) (numbers_rise xs rises a (b + 1) (omega arith) inside)
      go a b less inside (inr l) m = let le : i ≤ a = (let h = l in omega arith) in let le_b : i ≤ b = omega arith in rw (at_high a le, at_high b le_b) (numbers_rise xs rises (a + 1) (b + 1) (omega arith) inside)

  -- it is not in the rest
  gone : Contains (remove xs i) x → ⊥
  gone c =
      let at = index_of (remove xs i) x c in
      let k = at.0 in
      let value : get_or (remove xs i) k 0 ≡ x = get_or_from_slice_get (remove xs i) k x 0 at.1 in
      let inside = slice_get_within (remove xs i) k x at.1 in
      let size = length-remove xs i within in
      go k value (omega arith) (three_way k i)
    where
      go : (k : ℕ) → get_or (remove xs i) k 0 ≡ x → k + 1 < length xs → (k < i) ⊎ ((k ≡ i) ⊎ (i < k)) → ⊥
      go k value inside (inl less) = let same = get_or-remove_below xs i 0 k less within in let up = numbers_rise xs rises k i less within in omega arith
      go k value inside (inr h) = let le : i ≤ k = (let g = h in omega arith) in let same = get_or-remove_above xs i 0 k le within in let up = numbers_rise xs rises i (k + 1) (omega arith) inside in omega arith

  -- and the rest has all others
  pub contains_remove : (l : ℕ) → Contains (remove xs i) l ↔ ((l ≢ x) × Contains xs l)
  contains_remove l = (λ c. (λ same. gone (subst (λ (k : ℕ). Contains (remove xs i) k) same c), Contains-permutation (x ∷ remove xs i) xs l (IsPermutation-sym xs (x ∷ remove xs i) apart) (contains_tail x (remove xs i) l c)), λ h. back h.0 (contains_cases x (remove xs i) l (Contains-permutation xs (x ∷ remove xs i) l apart h.1)))
    where
      apart : IsPermutation xs (x ∷ remove xs i)
      apart = IsPermutation-remove xs i x within (sym is ∙ sym (get_or_from_slice_get xs i (get_or xs i 0) x (slice_get-get_or xs i 0 within)))

      back : l ≢ x → (x ≡ l) ⊎ Contains (remove xs i) l → Contains (remove xs i) l
      back other (inl same) = absurd (other (sym same))
      back other (inr c) = c

-- a number that was not found is put in at its place
pub put_in : (xs shown ys : List ℕ) (x at : ℕ) → Rises xs → shown ≡ xs → IsBinarySearchResult (λ y. nat_cmp y x) shown (Err at) → ys ≡ insert xs at x → Rises ys × ((l : ℕ) → Contains ys l ↔ ((l ≡ x) ⊎ Contains xs l))
put_in xs shown ys x at rises same position is = subst (λ (zs : List ℕ). Rises zs × ((l : ℕ) → Contains zs l ↔ ((l ≡ x) ⊎ Contains xs l))) (sym is) (Rises-insert xs at x rises found.0 found.1 found.2, contains_insert xs at x)
  where
    found : (at ≤ length xs) × ((k : ℕ) → k < at → get_or xs k 0 < x) × ((k : ℕ) → at ≤ k → k < length xs → x < get_or xs k 0)
    found = searched xs x (Err at) (subst (λ (zs : List ℕ). IsBinarySearchResult (λ y. nat_cmp y x) zs (Err at)) same position) (numbers_ordered xs rises)

-- a number that was found is there
pub found_in : (xs : List ℕ) (x at : ℕ) → Rises xs → IsBinarySearchResult (λ y. nat_cmp y x) xs (Ok at) → (at < length xs) × (get_or xs at 0 ≡ x)
found_in xs x at rises position = searched xs x (Ok at) position (numbers_ordered xs rises)

-- so the list has it
pub contains_found : (xs : List ℕ) (x at : ℕ) → Rises xs → IsBinarySearchResult (λ y. nat_cmp y x) xs (Ok at) → Contains xs x
contains_found xs x at rises position = let found = found_in xs x at rises position in contains_at xs at x (slice_get-get_or xs at 0 found.0 ∙ ap Some found.1)

-- and one that was not found is not
pub contains_not : (xs shown : List ℕ) (x at : ℕ) → Rises xs → shown ≡ xs → IsBinarySearchResult (λ y. nat_cmp y x) shown (Err at) → Contains xs x → ⊥
contains_not xs shown x at rises same position c = go (index_of xs x c)
  where
    found : (at ≤ length xs) × ((k : ℕ) → k < at → get_or xs k 0 < x) × ((k : ℕ) → at ≤ k → k < length xs → x < get_or xs k 0)
    found = searched xs x (Err at) (subst (λ (zs : List ℕ). IsBinarySearchResult (λ y. nat_cmp y x) zs (Err at)) same position) (numbers_ordered xs rises)

    go : (k : ℕ) × (slice_get xs k ≡ Some x) → ⊥
    go h = by (three_way h.0 at)
      where
        value : get_or xs h.0 0 ≡ x
        value = get_or_from_slice_get xs h.0 x 0 h.1

        by : (h.0 < at) ⊎ ((h.0 ≡ at) ⊎ (at < h.0)) → ⊥
        by (inl less) = let below = found.1 h.0 less in let same = value in omega arith
        by (inr more) = let le : at ≤ h.0 = (let g = more in omega arith) in let above = found.2 h.0 le (slice_get_within xs h.0 x h.1) in let same = value in omega arith

-- a number that was found is taken out
pub take_out : (xs shown ys : List ℕ) (x at : ℕ) → Rises xs → shown ≡ xs → IsBinarySearchResult (λ y. nat_cmp y x) shown (Ok at) → ys ≡ remove xs at → Rises ys × ((l : ℕ) → Contains ys l ↔ ((l ≢ x) × Contains xs l))
take_out xs shown ys x at rises same position is = subst (λ (zs : List ℕ). Rises zs × ((l : ℕ) → Contains zs l ↔ ((l ≢ x) × Contains xs l))) (sym is) (Rises-remove xs at x rises found.0 found.1, contains_remove xs at x rises found.0 found.1)
  where
    found : (at < length xs) × (get_or xs at 0 ≡ x)
    found = found_in xs x at rises (subst (λ (zs : List ℕ). IsBinarySearchResult (λ y. nat_cmp y x) zs (Ok at)) same position)

-- whether a number is in a list, by what a search answers
pub tells : (xs : List ℕ) (x : ℕ) (r : Result ℕ ℕ) → Rises xs → IsBinarySearchResult (λ y. nat_cmp y x) xs r → (b : Bool) → b ≡ is_ok r → IsTrue b ↔ Contains xs x
tells xs x (Ok at) rises position b is = (λ h. contains_found xs x at rises position, λ c. is)
tells xs x (Err at) rises position b is = (λ h. cc, λ c. absurd (contains_not xs xs x at rises refl position c))

-- none of the first i numbers of a list is in another
module _ (xs ys : List ℕ) where
  -- none of none
  pub absent_none : IsAbsentBelow xs 0 ys
  absent_none k less c = absurd (omega arith)

  -- one more
  pub absent_more : (i : ℕ) → IsAbsentBelow xs i ys → (Contains ys (get_or xs i 0) → ⊥) → IsAbsentBelow xs (i + 1) ys
  absent_more i below here k less c = go (cases_eq k i)
    where
      go : (k ≡ i) ⊎ (k ≢ i) → ⊥
      go (inl same) = here (subst (λ (m : ℕ). Contains ys (get_or xs m 0)) same c)
      go (inr other) = below k (omega (arith, other)) c

  -- all of them
  pub absent_all : (i : ℕ) → length xs ≤ i → IsAbsentBelow xs i ys → (l : ℕ) → Contains xs l → Contains ys l → ⊥
  absent_all i all below l in_x in_y =
      let at = index_of xs l in_x in
      let within = slice_get_within xs at.0 l at.1 in
      below at.0 (omega arith) (subst (Contains ys) (sym (get_or_from_slice_get xs at.0 l 0 at.1)) in_y)

-- A number of one list that is less than the one at an index of another, which rises, is not in that, where the numbers
-- before the index are not in the first.
pub less_is_absent : (xs ys : List ℕ) (i j : ℕ) → Rises ys → i < length xs → j < length ys → IsAbsentBelow ys j xs → get_or xs i 0 < get_or ys j 0 → Contains ys (get_or xs i 0) → ⊥
less_is_absent xs ys i j rises in_x in_y below less c =
    let at = index_of ys (get_or xs i 0) c in
    let value = get_or_from_slice_get ys at.0 (get_or xs i 0) 0 at.1 in
    go at.0 value (slice_get_within ys at.0 (get_or xs i 0) at.1) (three_way at.0 j)
  where
    go : (k : ℕ) → get_or ys k 0 ≡ get_or xs i 0 → k < length ys → (k < j) ⊎ ((k ≡ j) ⊎ (j < k)) → ⊥
    go k value within (inl before) = below k before (subst (Contains xs) (sym value) (contains_at xs i (get_or xs i 0) (slice_get-get_or xs i 0 in_x)))
    go k value within (inr more) = let le : j ≤ k = (let h = more in omega arith) in let up = numbers_ordered ys rises j k le within in omega arith

-- a number at an index of each of two lists is common to them
pub is_common : (xs ys : List ℕ) (i j : ℕ) → i < length xs → j < length ys → get_or xs i 0 ≡ get_or ys j 0 → ((l : ℕ) → Contains xs l → Contains ys l → ⊥) → ⊥
is_common xs ys i j in_x in_y same none =
    let in_xs : Contains xs (get_or xs i 0) = contains_at xs i (get_or xs i 0) (slice_get-get_or xs i 0 in_x) in
    let in_ys : Contains ys (get_or ys j 0) = contains_at ys j (get_or ys j 0) (slice_get-get_or ys j 0 in_y) in
    none (get_or xs i 0) in_xs (subst (Contains ys) (sym same) in_ys)
