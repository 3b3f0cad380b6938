-- Members of a set counted by threads.
use Rattle.std.proofs.Common.{◌≡◌, ℕ, zero, suc, ◌+◌, ◌<◌, ◌≤◌, Bool, true, false, cond, [], ◌∷◌, ◌++◌, length, ◌⊎◌, inl, inr, refl, sym, ap, subst, ◌∙◌, arith, length-append}
use Rattle.std.specs.Prelude.{IsTrue, ◌&&◌}
use Rattle.trace_laws.specs.Findings.{HasCount}
use Rattle.trace_laws.proofs.Places.{false_unless, three_way}
use Rattle.trace_laws.proofs.Ordered.{rising_unique}
use Rattle.trace_laws.proofs.Enabling.{members_below, members_are_below, members_rise, members_are_in, members_are_all}

-- one for a number that passes
abbrev pub one_if : Bool → ℕ
one_if true = 1
one_if false = 0

-- how many numbers below n pass the test
abbrev pub tally : ℕ → (ℕ → Bool) → ℕ
tally zero test = 0
tally (suc n) test = one_if (test n) + tally n test

-- the list of those that pass is so long
pub length-members_below : (n : ℕ) (test : ℕ → Bool) → length (members_below n test) ≡ tally n test
length-members_below zero test = refl
length-members_below (suc n) test = go (length-members_below n test) (test n)
  where
    go : length (members_below n test) ≡ tally n test → (b : Bool) → length (cond b (members_below n test ++ n ∷ []) (members_below n test)) ≡ one_if b + tally n test
    go rest true = let size = length-append (members_below n test) (n ∷ []) in omega arith
    go rest false = omega arith

-- a property that a test tells has the count of the test
pub count_from_tally : (n : ℕ) (test : ℕ → Bool) (P : ℕ → Type 0) → ((p : ℕ) → P p → (p < n) × IsTrue (test p)) → ((p : ℕ) → p < n → IsTrue (test p) → P p) → HasCount P (tally n test)
count_from_tally n test P only if = record {
  places = members_below n test;
  order = members_rise n test;
  members = λ p. (λ c. if p (members_are_below n test p c) (members_are_in n test p c), λ h. let both = only p h in members_are_all n test p both.0 both.1);
  size = length-members_below n test;
}

-- a property has one count
pub count_unique : (P : ℕ → Type 0) (m n : ℕ) → HasCount P m → HasCount P n → m ≡ n
count_unique P m n a b =
    let same = rising_unique a.places b.places a.order b.order (λ p c. (b.members p).1 ((a.members p).0 c)) (λ p c. (a.members p).1 ((b.members p).0 c)) in
    sym a.size ∙ ap length same ∙ b.size

-- tests that agree below n have one tally there
tally_same : (n : ℕ) (f g : ℕ → Bool) → ((i : ℕ) → i < n → f i ≡ g i) → tally n f ≡ tally n g
tally_same zero f g same = refl
tally_same (suc n) f g same =
    let rest = tally_same n f g (λ i less. same i (omega arith)) in
    let here : one_if (f n) ≡ one_if (g n) = ap one_if (same n (omega arith)) in
    omega arith

-- a longer range has at least as many
tally_longer : (n k : ℕ) (f : ℕ → Bool) → k ≤ n → tally k f ≤ tally n f
tally_longer zero k f le = let same : k ≡ 0 = omega arith in subst (λ (m : ℕ). tally m f ≤ 0) (sym same) (omega arith)
tally_longer (suc n) k f le = go (λ h. tally_longer n k f h) (three_way k (suc n))
  where
    go : (k ≤ n → tally k f ≤ tally n f) → (k < suc n) ⊎ ((k ≡ suc n) ⊎ (suc n < k)) → tally k f ≤ one_if (f n) + tally n f
    go rest (inl h) = let r = rest (omega arith) in omega arith
    go rest (inr (inl same)) = subst (λ (m : ℕ). tally m f ≤ one_if (f n) + tally n f) (sym same) (omega arith)
    go rest (inr (inr more)) = absurd (omega arith)

-- none after k: as many as below k
tally_none_after : (n k : ℕ) (f : ℕ → Bool) → k ≤ n → ((i : ℕ) → k ≤ i → i < n → f i ≡ false) → tally n f ≡ tally k f
tally_none_after zero k f le none = let same : k ≡ 0 = omega arith in subst (λ (m : ℕ). 0 ≡ tally m f) (sym same) refl
tally_none_after (suc n) k f le none = go (λ h. tally_none_after n k f h (λ i from less. none i from (omega arith))) (three_way k (suc n))
  where
    go : (k ≤ n → tally n f ≡ tally k f) → (k < suc n) ⊎ ((k ≡ suc n) ⊎ (suc n < k)) → one_if (f n) + tally n f ≡ tally k f
    go rest (inl h) =
        let r = rest (omega arith) in
        let out : one_if (f n) ≡ 0 = ap one_if (none n (omega arith) (omega arith)) in
        omega arith
    go rest (inr (inl same)) = subst (λ (m : ℕ). one_if (f n) + tally n f ≡ tally m f) (sym same) refl
    go rest (inr (inr more)) = absurd (omega arith)

-- a test that passes less often has the lesser tally
tally_fewer : (n : ℕ) (f g : ℕ → Bool) → ((i : ℕ) → f i ≡ true → g i ≡ true) → tally n f ≤ tally n g
tally_fewer zero f g under = omega arith
tally_fewer (suc n) f g under = go (tally_fewer n f g under) (f n) (g n) (under n)
  where
    go : tally n f ≤ tally n g → (a b : Bool) → (a ≡ true → b ≡ true) → one_if a + tally n f ≤ one_if b + tally n g
    go rest false b u = omega arith
    go rest true true u = omega arith
    go rest true false u = let wrong = u refl in cc

-- Of the places of a thread, those in the set come first: then a place of the thread is in the set exactly where
-- its number within the thread is below the number of the thread's members.
module _ (n : ℕ) (own set : ℕ → Bool) (down : (i j : ℕ) → i < j → IsTrue (own i) → IsTrue (own j) → IsTrue (set j) → IsTrue (set i)) where
  -- of the thread, and in the set
  abbrev Both : ℕ → Bool
  Both i = own i && set i

  -- a place of both passes
  both_from : (i : ℕ) → IsTrue (own i) → IsTrue (set i) → Both i ≡ true
  both_from i a b = rw (a, b) refl

  -- a place that passes is the thread's
  both_own : (i : ℕ) → Both i ≡ true → IsTrue (own i)
  both_own i h = go (own i) h
    where
      go : (b : Bool) → (b && set i) ≡ true → b ≡ true
      go true k = refl
      go false k = cc

  -- a place that passes is in the set
  both_set : (i : ℕ) → Both i ≡ true → IsTrue (set i)
  both_set i h = go (own i) h
    where
      go : (b : Bool) → (b && set i) ≡ true → set i ≡ true
      go true k = k
      go false k = cc

  -- the number of a member within its thread is below the count of the thread's members
  pub number_below_count : (p : ℕ) → p < n → IsTrue (own p) → IsTrue (set p) → tally p own < tally n Both
  number_below_count p within mine member =
      let same = tally_same p own Both (λ i less. agree i less (own i) refl) in
      let longer = tally_longer n (suc p) Both (omega arith) in
      let here : one_if (Both p) ≡ 1 = ap one_if (both_from p mine member) in
      omega arith
    where
      agree : (i : ℕ) → i < p → (b : Bool) → own i ≡ b → own i ≡ Both i
      agree i less true e = e ∙ sym (both_from i e (down i p less e mine member))
      agree i less false e = rw e refl

  -- and that of a place of the thread outside the set is not
  pub count_at_most_number : (p : ℕ) → p < n → IsTrue (own p) → set p ≡ false → tally n Both ≤ tally p own
  count_at_most_number p within mine absent =
      let after = tally_none_after n p Both (omega arith) none in
      let fewer = tally_fewer p Both own both_own in
      omega arith
    where
      out : (i : ℕ) → Both i ≡ true → (i < p) ⊎ ((i ≡ p) ⊎ (p < i)) → p ≤ i → ⊥
      out i h (inl less) from = omega arith
      out i h (inr (inl same)) from = let member : set p ≡ true = subst (λ (k : ℕ). set k ≡ true) same (both_set i h) in cc
      out i h (inr (inr more)) from = let member : set p ≡ true = down p i more mine (both_own i h) (both_set i h) in cc

      none : (i : ℕ) → p ≤ i → i < n → Both i ≡ false
      none i from less = false_unless (Both i) (λ h. out i h (three_way i p) from)
