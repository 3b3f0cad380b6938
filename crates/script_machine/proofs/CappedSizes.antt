-- Sizes that are added up as far as one past the limit.
use Rattle.std.proofs.Common.{◌≡◌, ℕ, zero, suc, ◌+◌, ◌*◌, ◌<◌, ◌≤◌, ◌⊎◌, inl, inr, List, length, nat_lt, refl, sym, ap, ◌∙◌, length-append, lt-ltb, ltb→lt, mul_comm, arith}
use Rattle.std.proofs.lemmas.Bool.{cases_lt, cases_Bool}
use Rattle.sp_base.specs.declared.limits.TheConstants.{MAX_INSTRUCTIONS}
use Rattle.script_machine.specs.ScriptText.{times}
use Rattle.script_machine.specs.BodyAt.{capped}

-- a size within the limit stays
pub cap_low : (n : ℕ) → n ≤ MAX_INSTRUCTIONS → capped n ≡ n
cap_low n h = elim (cases_Bool (nat_lt MAX_INSTRUCTIONS n)) [
  | inl t ↦ absurd (omega (arith, ltb→lt MAX_INSTRUCTIONS n (rw t tt)))
  | inr f ↦ rw f refl
]

-- a greater one is one past the limit
pub cap_high : (n : ℕ) → MAX_INSTRUCTIONS < n → capped n ≡ (MAX_INSTRUCTIONS + 1)
cap_high n h = rw (lt-ltb MAX_INSTRUCTIONS n h) refl

-- a size is within the limit, or it is greater
pub cap_one : (n : ℕ) → ((capped n ≡ n) × (n ≤ MAX_INSTRUCTIONS)) ⊎ ((capped n ≡ (MAX_INSTRUCTIONS + 1)) × (MAX_INSTRUCTIONS < n))
cap_one n = elim (cases_lt MAX_INSTRUCTIONS n) [
  | inl more ↦ inr (cap_high n more, more)
  | inr less ↦ inl (cap_low n less, less)
]

-- one past the limit stays too
pub cap_self : (n : ℕ) → n ≤ (MAX_INSTRUCTIONS + 1) → capped n ≡ n
cap_self n h = elim (cap_one n) [ inl c ↦ c.0 | inr c ↦ (let e : n ≡ (MAX_INSTRUCTIONS + 1) = omega (arith, c.1) in c.0 ∙ sym e) ]

-- a sum may be cut before more is added
pub cap_add : (a c : ℕ) → capped (capped a + c) ≡ capped (a + c)
cap_add a c = elim (cap_one a) [
  | inl k ↦ ap (λ n. capped (n + c)) k.0
  | inr k ↦ ap (λ n. capped (n + c)) k.0 ∙ (cap_high ((MAX_INSTRUCTIONS + 1) + c) (omega arith) ∙ sym (cap_high (a + c) (omega (arith, k.1))))
]

-- a product is no less than its factor
grows : (k a : ℕ) → a ≤ suc k * a
grows k a = omega arith

-- a factor may be cut before it is multiplied
cap_times : (n a : ℕ) → capped (n * capped a) ≡ capped (n * a)
cap_times zero a = let e : zero * capped a ≡ zero * a = omega arith in ap capped e
cap_times (suc n) a = elim (cap_one a) [
  | inl k ↦ ap (λ m. capped (suc n * m)) k.0
  | inr k ↦ ap (λ m. capped (suc n * m)) k.0 ∙ (cap_high (suc n * (MAX_INSTRUCTIONS + 1)) (let g = grows n (MAX_INSTRUCTIONS + 1) in omega arith) ∙ sym (cap_high (suc n * a) (let g = grows n a in let h = k.1 in omega arith)))
]

-- so may both factors
pub cap_mul : (n a : ℕ) → capped (capped n * capped a) ≡ capped (n * a)
cap_mul n a =
    let swap : (x y : ℕ) → x * y ≡ y * x = λ x y. mul_comm x y in
    cap_times (capped n) a ∙ (ap capped (swap (capped n) a) ∙ (cap_times a n ∙ ap capped (swap a n)))

-- the size of an `if` with one block, and of what follows it
pub choice_size : (a c s len : ℕ) → s ≡ capped (1 + capped a) → len ≡ suc (a + c) → capped len ≡ capped (s + c)
choice_size a c s len is long =
    let one : capped (capped (1 + capped a) + c) ≡ capped (1 + capped a + c) = cap_add (1 + capped a) c in
    let two : 1 + capped a + c ≡ capped a + (1 + c) = omega arith in
    let three : capped (capped a + (1 + c)) ≡ capped (a + (1 + c)) = cap_add a (1 + c) in
    let four : a + (1 + c) ≡ len = omega (arith, long) in
    sym (ap (λ n. capped (n + c)) is ∙ (one ∙ (ap capped two ∙ (three ∙ ap capped four))))

-- the size of an `if` with two blocks, and of what follows it
pub either_size : (a b c s len : ℕ) → s ≡ capped (2 + capped a + capped b) → len ≡ suc (a + suc (b + c)) → capped len ≡ capped (s + c)
either_size a b c s len is long =
    let one : capped (capped (2 + capped a + capped b) + c) ≡ capped (2 + capped a + capped b + c) = cap_add (2 + capped a + capped b) c in
    let two : 2 + capped a + capped b + c ≡ capped a + (2 + capped b + c) = omega arith in
    let three : capped (capped a + (2 + capped b + c)) ≡ capped (a + (2 + capped b + c)) = cap_add a (2 + capped b + c) in
    let four : a + (2 + capped b + c) ≡ capped b + (2 + a + c) = omega arith in
    let five : capped (capped b + (2 + a + c)) ≡ capped (b + (2 + a + c)) = cap_add b (2 + a + c) in
    let six : b + (2 + a + c) ≡ len = omega (arith, long) in
    sym (ap (λ n. capped (n + c)) is ∙ (one ∙ (ap capped two ∙ (three ∙ (ap capped four ∙ (five ∙ ap capped six))))))

-- the size of a `repeat`, and of what follows it
pub times_size : (n a c s len : ℕ) → s ≡ capped (capped n * capped a) → len ≡ n * a + c → capped len ≡ capped (s + c)
times_size n a c s len is long = sym (ap (λ m. capped (m + c)) (is ∙ cap_mul n a) ∙ (cap_add (n * a) c ∙ ap capped (sym long)))

-- so many copies are so many times as long
pub length_times : {X : Type 0} (n : ℕ) (xs : List X) → length (times n xs) ≡ n * length xs
length_times zero xs = let e : 0 ≡ zero * length xs = omega arith in e
length_times (suc n) xs = length-append xs (times n xs) ∙ (let ih = length_times n xs in omega arith)
