-- Numbers of seats with their counts, and sums over them.
use Rattle.std.specs.Prelude.{◌≡◌, ℕ, zero, suc, ◌+◌, List, [], ◌∷◌}

-- the sum of a weight over a list
abbrev pub total : {A : Type 0} → (A → ℕ) → List A → ℕ
total f [] = 0
total f (x ∷ xs) = f x + total f xs

-- the sum of a weight over the numbers below n
abbrev pub below : (ℕ → ℕ) → ℕ → ℕ
below f zero = 0
below f (suc n) = below f n + f n

-- numbers of seats, each with its count
abbrev pub Pairs : Type 0
Pairs = List (ℕ × ℕ)

-- the sum of a weight over the numbers that stand in the list
abbrev pub weight : (ℕ → ℕ) → Pairs → ℕ
weight f pairs = total (λ (p : ℕ × ℕ). f p.0) pairs

-- the count of each number is its tally
abbrev pub AreTallied : (ℕ → ℕ) → Pairs → Type 0
AreTallied tally [] = Unit {0}
AreTallied tally (p ∷ ps) = (tally p.0 ≡ p.1) × AreTallied tally ps

-- as many numbers as asked for from k on, each with count 0
abbrev pub fresh : ℕ → ℕ → Pairs
fresh k zero = []
fresh k (suc n) = (k, 0) ∷ fresh (suc k) n

-- the first number with its count
abbrev pub first_pair : Pairs → ℕ × ℕ
first_pair [] = (0, 0)
first_pair (p ∷ ps) = p

-- the first number alone
abbrev pub head_pairs : Pairs → Pairs
head_pairs [] = []
head_pairs (p ∷ ps) = p ∷ []

-- the numbers after the first
abbrev pub tail_pairs : Pairs → Pairs
tail_pairs [] = []
tail_pairs (p ∷ ps) = ps

-- at least one number
abbrev pub HasFirst : Pairs → Type 0
HasFirst pairs = pairs ≡ first_pair pairs ∷ tail_pairs pairs

-- exactly one number
abbrev pub IsOne : Pairs → Type 0
IsOne pairs = pairs ≡ first_pair pairs ∷ []
