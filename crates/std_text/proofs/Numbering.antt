-- Names that come in an order of their own: each has its old number, and the place at which that came.
use Rattle.std.proofs.Common.{◌≡◌, ◌≢◌, ℕ, suc, ◌+◌, ◌<◌, ◌≤◌, Bool, true, false, true≢false, ◌==◌, ◌||◌, cond, List, [], ◌∷◌, ◌++◌, length, map, Some, ◌⊎◌, inl, inr, refl, sym, ap, ◌∙◌, arith, eq-eqb, eqb-true}
use Rattle.std.specs.Prelude.{slice_get, nat_eq}
use Rattle.std.specs.List.{list_any, position_or_len, IsDistinct}
use Rattle.std.specs.Cmp.Lexicographic.{same_text}
use Rattle.std.proofs.lemmas.Bool.{cases_eq, ne_eqb}
use Rattle.std.proofs.lemmas.Cmp.{nat_eq_equiv, nat_list_eq_equiv}
use Rattle.std.proofs.lemmas.List.{map-append}
use Rattle.std.proofs.lemmas.List.Folds.{list_any-append}
use Rattle.std.proofs.lemmas.Map.Keys.{IsDistinct-push}
use Rattle.std.proofs.lemmas.Map.Steps.{length-le_from_distinct_below}
use Rattle.trace_laws.specs.Names.{same_name, is_numbered, number_of, with_name}
use Rattle.std_text.specs.Writing.{name_at}
use Rattle.std_text.specs.Rereading.{AreReadable}

-- whether a number came
abbrev pub has : List ℕ → ℕ → Bool
has came n = list_any (nat_eq n) came

-- the place at which it came, or the count of those that came
abbrev pub place : List ℕ → ℕ → ℕ
place came n = position_or_len (nat_eq n) came

-- the numbers after this one came
abbrev pub with_number : List ℕ → ℕ → List ℕ
with_number came n = cond (has came n) came (came ++ n ∷ [])

-- their names
abbrev pub spelled : List (List ℕ) → List ℕ → List (List ℕ)
spelled names came = map (name_at names) came

-- numbers of so many names, none of them twice
pub record AreNumbers (count : ℕ) (came : List ℕ) : Type 0 where
  pub distinct : IsDistinct nat_eq came
  pub below : (n : ℕ) → has came n ≡ true → n < count

-- ---- numbers

-- none came
pub numbers_none : (count : ℕ) → AreNumbers count []
unfolding IsDistinct
numbers_none count = record { distinct = tt; below = λ n h. absurd (true≢false (sym h)) }

-- one number more
has_push : (came : List ℕ) (n m : ℕ) → has (came ++ n ∷ []) m ≡ (has came m || (m == n || false))
has_push came n m = list_any-append (nat_eq m) came (n ∷ [])

-- it came then
pub has_new : (came : List ℕ) (n : ℕ) → has (with_number came n) n ≡ true
has_new came n = by (has came n) refl
  where
    by : (b : Bool) → has came n ≡ b → has (cond b came (came ++ n ∷ [])) n ≡ true
    by true is = is
    by false is = has_push came n n ∙ rw (is, eq-eqb n n refl) refl

-- and those that came before
pub has_more : (came : List ℕ) (n m : ℕ) → has came m ≡ true → has (with_number came n) m ≡ true
has_more came n m h = by (has came n)
  where
    by : (b : Bool) → has (cond b came (came ++ n ∷ [])) m ≡ true
    by true = h
    by false = has_push came n m ∙ rw h refl

-- a number that came keeps its place
place_left : (came more : List ℕ) (m : ℕ) → has came m ≡ true → place (came ++ more) m ≡ place came m
place_left [] more m h = absurd (true≢false (sym h))
place_left (c ∷ came) more m h = by (m == c) refl h (place_left came more m)
  where
    by : (b : Bool) → (m == c) ≡ b → (b || has came m) ≡ true → (has came m ≡ true → place (came ++ more) m ≡ place came m) → place (c ∷ (came ++ more)) m ≡ place (c ∷ came) m
    by true is h rest = rw is refl
    by false is h rest = rw (is, rest h) refl

-- also where one number comes
pub place_more : (came : List ℕ) (n m : ℕ) → has came m ≡ true → place (with_number came n) m ≡ place came m
place_more came n m h = by (has came n)
  where
    by : (b : Bool) → place (cond b came (came ++ n ∷ [])) m ≡ place came m
    by true = refl
    by false = place_left came (n ∷ []) m h

-- a new number comes last
place_last : (came : List ℕ) (n : ℕ) → has came n ≡ false → place (came ++ n ∷ []) n ≡ place came n
place_last [] n h = rw (eq-eqb n n refl) refl
place_last (c ∷ came) n h = by (n == c) refl h (place_last came n)
  where
    by : (b : Bool) → (n == c) ≡ b → (b || has came n) ≡ false → (has came n ≡ false → place (came ++ n ∷ []) n ≡ place came n) → place (c ∷ (came ++ n ∷ [])) n ≡ place (c ∷ came) n
    by true is h rest = absurd (true≢false h)
    by false is h rest = rw (is, rest h) refl

-- so its place is known before it comes
pub place_new : (came : List ℕ) (n : ℕ) → place (with_number came n) n ≡ place came n
place_new came n = by (has came n) refl
  where
    by : (b : Bool) → has came n ≡ b → place (cond b came (came ++ n ∷ [])) n ≡ place came n
    by true is = refl
    by false is = place_last came n is

-- what stands at the place of a number that came
pub place_at : (came : List ℕ) (m : ℕ) → has came m ≡ true → slice_get came (place came m) ≡ Some m
place_at [] m h = absurd (true≢false (sym h))
place_at (c ∷ came) m h = by (m == c) refl h (place_at came m)
  where
    by : (b : Bool) → (m == c) ≡ b → (b || has came m) ≡ true → (has came m ≡ true → slice_get came (place came m) ≡ Some m) → slice_get (c ∷ came) (place (c ∷ came) m) ≡ Some m
    by true is h rest = rw is (ap Some (sym (eqb-true m c is)))
    by false is h rest = let one : 1 + place came m ≡ suc (place came m) = omega arith in rw (is, one) (rest h)

-- numbers that came have one place where they are one
pub same_place : (came : List ℕ) (m n : ℕ) → has came m ≡ true → has came n ≡ true → (place came m == place came n) ≡ (m == n)
same_place came m n has_m has_n = by (cases_eq m n)
  where
    by : (m ≡ n) ⊎ (m ≢ n) → (place came m == place came n) ≡ (m == n)
    by (inl same) = rw (eq-eqb m n same) (eq-eqb _ _ (ap (place came) same))
    by (inr other) = rw (ne_eqb m n other) (ne_eqb _ _ (λ e. let a = place_at came m has_m in let b = place_at came n has_n in let c = ap (slice_get came) e in let same : m ≡ n = cc in other same))

-- one more of them
pub numbers_with : (count : ℕ) (came : List ℕ) (n : ℕ) → AreNumbers count came → n < count → AreNumbers count (with_number came n)
numbers_with count came n are less = by (has came n) refl
  where
    by : (b : Bool) → has came n ≡ b → AreNumbers count (cond b came (came ++ n ∷ []))
    by true is = are
    by false is = record {
      distinct = IsDistinct-push nat_eq_equiv came n are.distinct is;
      below = λ m h. below m (has came m) refl (sym (has_push came n m) ∙ h);
    }
      where
        below : (m : ℕ) (b : Bool) → has came m ≡ b → (b || (m == n || false)) ≡ true → m < count
        below m true is h = are.below m is
        below m false is h = at (m == n) refl h
          where
            at : (b : Bool) → (m == n) ≡ b → (b || false) ≡ true → m < count
            at true is h = let same = eqb-true m n is in omega arith
            at false is h = absurd (true≢false (sym h))

-- they are not more than the names
pub numbers_few : (count : ℕ) (came : List ℕ) → AreNumbers count came → length came ≤ count
numbers_few count came are = length-le_from_distinct_below came count are.distinct are.below

-- ---- names

module _ (names : List (List ℕ)) (limit : ℕ) (readable : AreReadable names limit) (n : ℕ) (less : n < length names) where
  -- a name is that of its number alone
  same_is : (m : ℕ) → m < length names → same_name (name_at names n) (name_at names m) ≡ (n == m)
  same_is m within = by (cases_eq n m)
    where
      by : (n ≡ m) ⊎ (n ≢ m) → same_name (name_at names n) (name_at names m) ≡ (n == m)
      by (inl same) = rw (eq-eqb n m same, same) (nat_list_eq_equiv.refl (name_at names m))
      by (inr other) = rw (ne_eqb n m other) (unless (same_name (name_at names n) (name_at names m)) refl)
        where
          unless : (b : Bool) → same_name (name_at names n) (name_at names m) ≡ b → b ≡ false
          unless true is = absurd (other (readable.distinct n m less within (same_text _ _ (sym is))))
          unless false is = refl

  -- whether it is numbered, as numbers tell
  pub numbered_is : (came : List ℕ) → ((m : ℕ) → has came m ≡ true → m < length names) → is_numbered (spelled names came) (name_at names n) ≡ has came n
  numbered_is [] below = refl
  numbered_is (c ∷ came) below = rw (same_is c (below c (rw (eq-eqb c c refl) refl)), numbered_is came (λ m h. below m (or_right (m == c) h))) refl
    where
      or_right : (b : Bool) {d : Bool} → d ≡ true → (b || d) ≡ true
      or_right true h = refl
      or_right false h = h

  -- and its number
  pub number_is : (came : List ℕ) → ((m : ℕ) → has came m ≡ true → m < length names) → number_of (spelled names came) (name_at names n) ≡ place came n
  number_is [] below = refl
  number_is (c ∷ came) below = rw (same_is c (below c (rw (eq-eqb c c refl) refl)), number_is came (λ m h. below m (or_right (m == c) h))) refl
    where
      or_right : (b : Bool) {d : Bool} → d ≡ true → (b || d) ≡ true
      or_right true h = refl
      or_right false h = h

  -- the names after it
  pub with_is : (came : List ℕ) → AreNumbers (length names) came → with_name (spelled names came) (name_at names n) ≡ spelled names (with_number came n)
  with_is came are = rw (numbered_is came are.below) (by (has came n))
    where
      by : (b : Bool) → cond b (spelled names came) (spelled names came ++ name_at names n ∷ []) ≡ spelled names (cond b came (came ++ n ∷ []))
      by true = refl
      by false = sym (map-append (name_at names) came (n ∷ []))
