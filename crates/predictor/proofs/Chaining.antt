-- One list behind another.
use Rattle.std.proofs.Common.{◌≡◌, ℕ, ◌-◌, ◌<◌, ◌≤◌, List, [], ◌∷◌, ◌++◌, length, get_or, ◌⊎◌, inl, inr, refl, sym, subst, arith, length-append}
use Rattle.std.specs.Prelude.{Contains, AllPairs}
use Rattle.std.specs.List.{AllZip}
use Rattle.std.proofs.lemmas.Bool.{cases_lt}
use Rattle.std.proofs.lemmas.List.{get_or_append_left, get_or-append_right}
use Rattle.std.proofs.lemmas.List.Elements.{Contains-get_or}

-- two lists in an order, where each element of the first stands before each of the second
pub all_pairs_append : {X : Type 0} (R : X → X → Type 0) (xs ys : List X) → AllPairs R xs → AllPairs R ys → ((x y : X) → Contains xs x → Contains ys y → R x y) → AllPairs R (xs ++ ys)
all_pairs_append {X} R xs ys first second across i j d less within = go (cases_lt i (length xs)) (cases_lt j (length xs))
  where
    left : (k : ℕ) → k < length xs → get_or xs k d ≡ get_or (xs ++ ys) k d
    left k inside = sym (get_or_append_left xs ys d k inside)

    right : (k : ℕ) → length xs ≤ k → get_or ys (k - length xs) d ≡ get_or (xs ++ ys) k d
    right k past = sym (get_or-append_right xs ys (length xs) k d refl past)

    go : (i < length xs) ⊎ (length xs ≤ i) → (j < length xs) ⊎ (length xs ≤ j) → R (get_or (xs ++ ys) i d) (get_or (xs ++ ys) j d)
    go (inl a) (inl b) = subst (λ x. R x (get_or (xs ++ ys) j d)) (left i a) (subst (R (get_or xs i d)) (left j b) (first i j d less b))
    go (inl a) (inr b) =
        let long = length-append xs ys in
        subst (λ x. R x (get_or (xs ++ ys) j d)) (left i a) (subst (R (get_or xs i d)) (right j b) (across (get_or xs i d) (get_or ys (j - length xs) d) (Contains-get_or xs i d a) (Contains-get_or ys (j - length xs) d (omega arith))))
    go (inr a) (inl b) = absurd (omega arith)
    go (inr a) (inr b) =
        let long = length-append xs ys in
        subst (λ x. R x (get_or (xs ++ ys) j d)) (right i a) (subst (R (get_or ys (i - length xs) d)) (right j b) (second (i - length xs) (j - length xs) d (omega arith) (omega arith)))

-- lists that agree element by element
pub all_zip_append : {A B : Type 0} (R : A → B → Type 0) (xs xs2 : List A) (ys ys2 : List B) → AllZip R xs ys → AllZip R xs2 ys2 → AllZip R (xs ++ xs2) (ys ++ ys2)
all_zip_append R [] xs2 [] ys2 first second = second
all_zip_append R [] xs2 (y ∷ ys) ys2 first second = absurd first
all_zip_append R (x ∷ xs) xs2 [] ys2 first second = absurd first
all_zip_append R (x ∷ xs) xs2 (y ∷ ys) ys2 first second = (first.0, all_zip_append R xs xs2 ys ys2 first.1 second)
