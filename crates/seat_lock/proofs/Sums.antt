-- Sums over lists that change at one place, and counts that stand.
use Rattle.std.proofs.Common.{◌≡◌, ◌≢◌, ℕ, zero, suc, ◌+◌, ◌<◌, ◌≤◌, List, [], ◌∷◌, ◌++◌, length, set, sym, refl, ap, ◌∙◌, arith, cond, eqb, eq-eqb, ne_eqb}
use mathlib.Core.Logic.{dite}
use mathlib.Core.Option.{some, some-injective, some-ne-none}
use native.Mathlib.Decide.{ℕ_discrete}
use lib.ListN.{get_elem?}
use Rattle.seat_lock.specs.Tallies.{total, below, Pairs, weight, AreTallied, fresh}

module _ {A : Type 0} (g : A → ℕ) where
  -- the sum over two lists after one another
  pub total-append : (xs ys : List A) → total g (xs ++ ys) ≡ total g xs + total g ys
  total-append [] ys = omega arith
  total-append (x ∷ xs) ys = omega (arith, total-append xs ys)

  -- the sum where one item is put in place of another
  pub total-set : (xs : List A) (j : ℕ) (v w : A) → get_elem? xs j ≡ some v → total g (set xs j w) + g v ≡ total g xs + g w
  total-set [] j v w at = absurd (some-ne-none v (sym at))
  total-set (x ∷ xs) zero v w at = omega (arith, ap g (some-injective x v at))
  total-set (x ∷ xs) (suc j) v w at = omega (arith, total-set xs j v w at)

  -- one item weighs no more than all
  term_le : (xs : List A) (j : ℕ) (v : A) → get_elem? xs j ≡ some v → g v ≤ total g xs
  term_le [] j v at = absurd (some-ne-none v (sym at))
  term_le (x ∷ xs) zero v at = omega (arith, ap g (some-injective x v at))
  term_le (x ∷ xs) (suc j) v at = omega (arith, term_le xs j v at)

  -- two items at different places weigh no more than all
  pub terms_le : (xs : List A) (j k : ℕ) (v u : A) → k ≢ j → get_elem? xs j ≡ some v → get_elem? xs k ≡ some u → g v + g u ≤ total g xs
  terms_le [] j k v u apart at there = absurd (some-ne-none v (sym at))
  terms_le (x ∷ xs) zero zero v u apart at there = absurd (apart refl)
  terms_le (x ∷ xs) zero (suc k) v u apart at there = omega (arith, ap g (some-injective x v at), term_le xs k u there)
  terms_le (x ∷ xs) (suc j) zero v u apart at there = omega (arith, ap g (some-injective x u there), term_le xs j v at)
  terms_le (x ∷ xs) (suc j) (suc k) v u apart at there = omega (arith, terms_le xs j k v u (λ same. apart (ap suc same)) at there)

  -- items that weigh nothing
  pub total_none : (xs : List A) → ((j : ℕ) (v : A) → get_elem? xs j ≡ some v → g v ≡ 0) → total g xs ≡ 0
  total_none [] none = refl
  total_none (x ∷ xs) none = omega (arith, none 0 x refl, total_none xs (λ j v at. none (suc j) v at))

-- numbers that weigh one each weigh what they count
pub weight-length : (ps : Pairs) → weight (λ _. 1) ps ≡ length ps
weight-length [] = refl
weight-length (p ∷ ps) = omega (arith, weight-length ps)

-- the same of the numbers below n
pub below-one : (n : ℕ) → below (λ _. 1) n ≡ n
below-one zero = refl
below-one (suc n) = omega (arith, below-one n)

-- the weight of one number alone
abbrev pub only : ℕ → ℕ → ℕ
only k x = cond (eqb x k) 1 0

-- that number weighs one
pub only-same : (k : ℕ) → only k k ≡ 1
only-same k = ap (λ b. cond b 1 0) (eq-eqb k k refl)

-- it stands once below n, and only where it is below n
below-only : (k n : ℕ) → (below (only k) n ≤ 1) × (n ≤ k → below (only k) n ≡ 0)
below-only k zero = (omega arith, λ _. refl)
below-only k (suc n) =
    let before = below-only k n in
    dite (ℕ_discrete n k)
    (λ same. let none_yet = before.1 (omega arith) in let one : only k n ≡ 1 = ap (λ b. cond b 1 0) (eq-eqb n k same) in (omega arith, λ past. absurd (omega arith)))
    (λ other. let none_here : only k n ≡ 0 = ap (λ b. cond b 1 0) (ne_eqb n k other) in (omega (arith, before.0), λ past. omega (arith, before.1 (omega arith))))

-- no number stands twice below n
pub below-once : (k n : ℕ) → below (only k) n ≤ 1
below-once k n = (below-only k n).0

-- fresh numbers weigh what is between their bounds
pub weight-fresh : (f : ℕ → ℕ) (k n : ℕ) → weight f (fresh k n) + below f k ≡ below f (k + n)
weight-fresh f k zero = omega (arith, ap (below f) (let none : k + 0 ≡ k = omega arith in none))
weight-fresh f k (suc n) = let next : suc k + n ≡ k + suc n = omega arith in omega (arith, weight-fresh f (suc k) n, ap (below f) next)

-- the counts of two lists after one another
pub tallied-append : (t : ℕ → ℕ) (ps qs : Pairs) → AreTallied t ps → AreTallied t qs → AreTallied t (ps ++ qs)
tallied-append t [] qs a b = b
tallied-append t (p ∷ ps) qs a b = (a.0, tallied-append t ps qs a.1 b)

-- the counts of each of two lists
pub tallied_apart : (t : ℕ → ℕ) (ps qs : Pairs) → AreTallied t (ps ++ qs) → AreTallied t ps × AreTallied t qs
tallied_apart t [] qs all = (tt, all)
tallied_apart t (p ∷ ps) qs all = let more = tallied_apart t ps qs all.1 in ((all.0, more.0), more.1)

-- fresh numbers, whose tallies are 0
pub tallied-fresh : (t : ℕ → ℕ) (k n : ℕ) → ((j : ℕ) → j < k + n → t j ≡ 0) → AreTallied t (fresh k n)
tallied-fresh t k zero none = tt
tallied-fresh t k (suc n) none = (none k (omega arith), tallied-fresh t (suc k) n (λ j within. none j (omega arith)))

-- the counts stand where only the tally of a number changes that is not in the list
pub tallied_still : (k : ℕ) (t u : ℕ → ℕ) (ps : Pairs) → ((j : ℕ) → j ≢ k → u j ≡ t j) → weight (only k) ps ≡ 0 → AreTallied t ps → AreTallied u ps
tallied_still k t u [] same none all = tt
tallied_still k t u (p ∷ ps) same none all =
    let other : p.0 ≢ k = λ is. let one : only k p.0 ≡ 1 = ap (λ b. cond b 1 0) (eq-eqb p.0 k is) in absurd (omega arith) in
    (same p.0 other ∙ all.0, tallied_still k t u ps same (omega arith) all.1)
