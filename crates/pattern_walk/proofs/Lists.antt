-- Lemmas on lists.
use Rattle.std.proofs.Common.{◌≡◌, ℕ, zero, suc, ◌+◌, ◌-◌, ◌<◌, ◌≤◌, List, [], ◌∷◌, ◌++◌, length, take, map, get_or, Some, ◌⊎◌, inl, inr, refl, sym, ap, subst, ◌∙◌, arith, length-append}
use Rattle.std.specs.Prelude.{slice_get, Contains, All, AllPairs}
use Rattle.std.specs.Option.{option_map}
use Rattle.std.proofs.Math.Seq.{take-append_seam}
use Rattle.std.proofs.lemmas.Option.{slice_get_within, get_or_from_slice_get, slice_get-get_or, slice_get-map}
use Rattle.trace_laws.proofs.Places.{index_of, contains_at, contains_head, contains_tail, contains_cases, contains_none, mapped_from}

-- what holds of each element holds of all
pub all_from : {X : Type 0} (P : X → Type 0) (xs : List X) → ((i : ℕ) (x : X) → slice_get xs i ≡ Some x → P x) → All P xs
all_from P xs each k d within = each k (get_or xs k d) (slice_get-get_or xs k d within)

-- and the other way round
pub all_at : {X : Type 0} (P : X → Type 0) (xs : List X) → All P xs → (i : ℕ) (x : X) → slice_get xs i ≡ Some x → P x
all_at P xs all i x at = subst P (get_or_from_slice_get xs i x x at) (all i x (slice_get_within xs i x at))

-- what holds of each two elements in order holds of all pairs
pub all_pairs_from : {X : Type 0} (R : X → X → Type 0) (xs : List X) → ((i j : ℕ) (x y : X) → i < j → slice_get xs i ≡ Some x → slice_get xs j ≡ Some y → R x y) → AllPairs R xs
all_pairs_from R xs each i j d less within = each i j (get_or xs i d) (get_or xs j d) less (slice_get-get_or xs i d (omega arith)) (slice_get-get_or xs j d within)

-- and the other way round
pub all_pairs_at : {X : Type 0} (R : X → X → Type 0) (xs : List X) → AllPairs R xs → (i j : ℕ) (x y : X) → i < j → slice_get xs i ≡ Some x → slice_get xs j ≡ Some y → R x y
all_pairs_at R xs all i j x y less at_x at_y = subst (λ a. R a y) (get_or_from_slice_get xs i x x at_x) (subst (R (get_or xs i x)) (get_or_from_slice_get xs j y x at_y) (all i j x less (slice_get_within xs j y at_y)))

-- what stands in a mapped list comes from what stands in the list
pub map_at : {X Y : Type 0} (f : X → Y) (xs : List X) (i : ℕ) (y : Y) → slice_get (map f xs) i ≡ Some y → (x : X) × (slice_get xs i ≡ Some x) × (f x ≡ y)
map_at f xs i y at = mapped_from f (slice_get xs i) y (sym (slice_get-map f xs i) ∙ at)

-- what stands in the list stands in the mapped one
pub at_map : {X Y : Type 0} (f : X → Y) (xs : List X) (i : ℕ) (x : X) → slice_get xs i ≡ Some x → slice_get (map f xs) i ≡ Some (f x)
at_map f xs i x at = slice_get-map f xs i ∙ ap (option_map f) at

-- a mapped list has what it maps
pub contains_map : {X Y : Type 0} (f : X → Y) (xs : List X) (x : X) → Contains xs x → Contains (map f xs) (f x)
contains_map f xs x c = let at = index_of xs x c in contains_at (map f xs) at.0 (f x) (at_map f xs at.0 x at.1)

-- and nothing else
pub contains_mapped : {X Y : Type 0} (f : X → Y) (xs : List X) (y : Y) → Contains (map f xs) y → (x : X) × Contains xs x × (f x ≡ y)
contains_mapped f xs y c = let at = index_of (map f xs) y c in let found = map_at f xs at.0 y at.1 in (found.0, contains_at xs at.0 found.0 found.1, found.2)

-- lists of one length, the one of which has what the other has, are equal
pub same_list : (xs ys : List ℕ) → length xs ≡ length ys → ((i n : ℕ) → slice_get xs i ≡ Some n → slice_get ys i ≡ Some n) → xs ≡ ys
same_list [] [] size each = refl
same_list [] (y ∷ ys) size each = absurd (omega arith)
same_list (x ∷ xs) [] size each = absurd (omega arith)
same_list (x ∷ xs) (y ∷ ys) size each =
    let head = each zero x refl in
    let rest : xs ≡ ys = same_list xs ys (omega arith) (λ i n at. each (suc i) n at) in
    cc

-- a list without its last element
pub without_last : {X : Type 0} (xs ys zs : List X) (x : X) (k : ℕ) → zs ≡ take k ys → ys ≡ xs ++ x ∷ [] → k ≡ length ys - 1 → zs ≡ xs
without_last xs ys zs x k rest whole end =
    let long : length ys ≡ length xs + 1 = ap length whole ∙ length-append xs (x ∷ []) in
    let same : k ≡ length xs = omega arith in
    rest ∙ ap (λ (i : ℕ). take i ys) same ∙ ap (take (length xs)) whole ∙ take-append_seam xs (x ∷ [])

-- the rest of a list in order is in order
pub pairs_tail : {X : Type 0} (R : X → X → Type 0) (z : X) (zs : List X) → AllPairs R (z ∷ zs) → AllPairs R zs
pairs_tail R z zs up = all_pairs_from R zs (λ i j a b less at_a at_b. all_pairs_at R (z ∷ zs) up (suc i) (suc j) a b (omega arith) at_a at_b)

-- and its first element comes before each other
pub pairs_head : {X : Type 0} (R : X → X → Type 0) (z : X) (zs : List X) → AllPairs R (z ∷ zs) → (a : X) → Contains zs a → R z a
pairs_head R z zs up a c = let at = index_of zs a c in all_pairs_at R (z ∷ zs) up zero (suc at.0) z a (omega arith) refl at.1

-- an element that is not the first is one of the rest
contains_later : {X : Type 0} (y : X) (ys : List X) (a : X) → (y ≡ a → ⊥) → Contains (y ∷ ys) a → Contains ys a
contains_later {X} y ys a other c = by (contains_cases y ys a c)
  where
    by : (y ≡ a) ⊎ Contains ys a → Contains ys a
    by (inl same) = absurd (other same)
    by (inr m) = m

-- Of two lists in one strict order, the one whose elements all are in the other is not longer.
pub not_longer : {X : Type 0} (R : X → X → Type 0) → ((x y : X) → R x y → R y x → ⊥) → (xs ys : List X) → AllPairs R xs → AllPairs R ys → ((x : X) → Contains xs x → Contains ys x) → length xs ≤ length ys
not_longer R asym xs [] up_x up_y sub = none xs sub
  where
    none : {X : Type 0} (zs : List X) → ((x : X) → Contains zs x → Contains [] x) → length zs ≤ 0
    none [] sub = omega arith
    none (z ∷ zs) sub = absurd (contains_none z (sub z (contains_head z zs)))
not_longer {X} R asym xs (y ∷ ys) up_x up_y sub = go xs up_x sub (λ zs up within. not_longer R asym zs ys up (pairs_tail R y ys up_y) within)
  where
    go : (zs : List X) → AllPairs R zs → ((x : X) → Contains zs x → Contains (y ∷ ys) x) → ((ws : List X) → AllPairs R ws → ((x : X) → Contains ws x → Contains ys x) → length ws ≤ length ys) → length zs ≤ length (y ∷ ys)
    go [] up within rest = omega arith
    go (z ∷ zs) up within rest = by (contains_cases y ys z (within z (contains_head z zs)))
      where
        others : (y ≡ z) → (a : X) → Contains zs a → y ≡ a → ⊥
        others same a c is = let before = pairs_head R z zs up a c in let self : R a a = subst (λ b. R b a) (sym same ∙ is) before in asym a a self self

        below : Contains ys z → (a : X) → (z ≡ a) ⊎ Contains zs a → Contains (y ∷ ys) a → Contains ys a
        below m a (inl same) c = subst (Contains ys) same m
        below m a (inr d) c = contains_later y ys a (λ is. asym z a (pairs_head R z zs up a d) (subst (λ b. R b z) is (pairs_head R y ys up_y z m))) c

        by : (y ≡ z) ⊎ Contains ys z → length (z ∷ zs) ≤ length (y ∷ ys)
        by (inl same) = let less : length zs ≤ length ys = rest zs (pairs_tail R z zs up) (λ a c. contains_later y ys a (others same a c) (within a (contains_tail z zs a c))) in omega arith
        by (inr m) = let less : length (z ∷ zs) ≤ length ys = rest (z ∷ zs) up (λ a c. below m a (contains_cases z zs a c) (within a c)) in omega arith
