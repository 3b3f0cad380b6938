-- Folds over a list from a place on.
use Rattle.std.proofs.Common.{◌≡◌, ℕ, zero, suc, ◌+◌, ◌<◌, List, [], ◌∷◌, length, drop, map, get_or, sum_by, refl, ap, ◌∙◌, add-one, arith}
use Rattle.std.proofs.lemmas.List.Sums.{sum_by-cons}

-- the rest of a mapped list begins with the element that stands there
drop_map : {X Y : Type 0} (f : X → Y) (xs : List X) (k : ℕ) (d : X) → k < length xs → drop k (map f xs) ≡ f (get_or xs k d) ∷ drop (k + 1) (map f xs)
drop_map f [] k d h = absurd (omega arith)
drop_map f (y ∷ ys) zero d h = refl
drop_map f (y ∷ ys) (suc k) d h = rw add-one (let r = drop_map f ys k d (omega arith) in let r' = rw add-one at r in r')

-- a sum from a place on, with one element more
pub sum_next : {X Y : Type 0} (g : Y → ℕ) (f : X → Y) (xs : List X) (k total more : ℕ) (d : X) → k < length xs → sum_by g (map f xs) ≡ total + sum_by g (drop k (map f xs)) → more ≡ g (f (get_or xs k d))
    → sum_by g (map f xs) ≡ total + more + sum_by g (drop (k + 1) (map f xs))
sum_next g f xs k total more d less so is =
    let step : sum_by g (drop k (map f xs)) ≡ g (f (get_or xs k d)) + sum_by g (drop (k + 1) (map f xs)) = ap (sum_by g) (drop_map f xs k d less) ∙ sum_by-cons g (f (get_or xs k d)) (drop (k + 1) (map f xs)) in
    omega (arith, so, is, step)
