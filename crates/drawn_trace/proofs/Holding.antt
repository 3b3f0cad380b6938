-- What a thread holds, with a lock more and without its last one.
use Rattle.std.proofs.Common.{◌≡◌, ◌≢◌, ℕ, ◌<◌, Bool, true, false, true≢false, ◌||◌, ◌==◌, List, length, Option, Some, None, ◌⊎◌, inl, inr, refl, sym, ap, ◌∙◌, eq-eqb, eqb-true}
use Rattle.std.specs.Prelude.{slice_get, slice_set, unwrap_or}
use Rattle.std.specs.List.{list_any}
use Rattle.std.proofs.lemmas.Bool.{not-true}
use Rattle.std.proofs.lemmas.Map.Keys.{any_passes_from_place}
use Rattle.trace_laws.proofs.Growing.{slice_get-set_same, slice_get-set_other}
use Rattle.drawn_trace.specs.declared.held.Held.{Held}
use Rattle.drawn_trace.specs.declared.held.Held.TheVariants.{Nothing, One, Two}
use Rattle.drawn_trace.specs.Drawn.{holds_lock, with_last, without_last, held_by, is_free}

-- ---- two tests

-- one of them passes
either_passes : (a b : Bool) → (a || b) ≡ true → (a ≡ true) ⊎ (b ≡ true)
either_passes true b h = inl refl
either_passes false b h = inr h

-- the first passes
first_passes : (a b : Bool) → a ≡ true → (a || b) ≡ true
first_passes true b h = refl
first_passes false b h = absurd (true≢false (sym h))

-- the second passes
second_passes : (a b : Bool) → b ≡ true → (a || b) ≡ true
second_passes true b h = refl
second_passes false b h = h

-- ---- a lock more

-- a thread that may take one more
abbrev pub HasRoom : Held → Type 0
HasRoom (Two j k) = ⊥
HasRoom _ = Unit {0}

-- no lock twice
abbrev pub AreApart : Held → Type 0
AreApart (Two j k) = j ≢ k
AreApart _ = Unit {0}

-- the lock that is taken is held
pub with_new : (own : Held) (l : ℕ) → HasRoom own → holds_lock (with_last own l) l ≡ true
with_new Nothing l room = eq-eqb l l refl
with_new (One k) l room = second_passes (k == l) (l == l) (eq-eqb l l refl)
with_new (Two j k) l room = absurd room

-- and so are those that were held
pub with_old : (own : Held) (l m : ℕ) → holds_lock own m ≡ true → holds_lock (with_last own l) m ≡ true
with_old Nothing l m h = absurd (true≢false (sym h))
with_old (One k) l m h = first_passes (k == m) (l == m) h
with_old (Two j k) l m h = h

-- and no others
pub with_cases : (own : Held) (l m : ℕ) → holds_lock (with_last own l) m ≡ true → (holds_lock own m ≡ true) ⊎ (l ≡ m)
with_cases Nothing l m h = inr (eqb-true l m h)
with_cases (One k) l m h = go (either_passes (k == m) (l == m) h)
  where
    go : ((k == m) ≡ true) ⊎ ((l == m) ≡ true) → ((k == m) ≡ true) ⊎ (l ≡ m)
    go (inl old) = inl old
    go (inr new) = inr (eqb-true l m new)
with_cases (Two j k) l m h = inl h

-- a lock that was not held is another one
pub with_apart : (own : Held) (l : ℕ) → AreApart own → (holds_lock own l ≡ true → ⊥) → AreApart (with_last own l)
with_apart Nothing l apart free = tt
with_apart (One k) l apart free = λ same. free (eq-eqb k l same)
with_apart (Two j k) l apart free = apart

-- ---- without the last

-- the lock that was taken last
abbrev pub IsLast : Held → ℕ → Type 0
IsLast Nothing l = ⊥
IsLast (One k) l = k ≡ l
IsLast (Two j k) l = k ≡ l

-- is held
pub last_held : (own : Held) (l : ℕ) → IsLast own l → holds_lock own l ≡ true
last_held Nothing l last = absurd last
last_held (One k) l last = eq-eqb k l last
last_held (Two j k) l last = second_passes (j == l) (k == l) (eq-eqb k l last)

-- without it the others are held
pub without_cases : (own : Held) (l m : ℕ) → IsLast own l → AreApart own → holds_lock (without_last own) m ≡ true → (holds_lock own m ≡ true) × (l ≢ m)
without_cases Nothing l m last apart h = absurd last
without_cases (One k) l m last apart h = absurd (true≢false (sym h))
without_cases (Two j k) l m last apart h =
    let first : j ≡ m = eqb-true j m h in
    (first_passes (j == m) (k == m) h, λ same. apart (first ∙ sym same ∙ sym last))

-- and all of them
pub without_old : (own : Held) (l m : ℕ) → IsLast own l → holds_lock own m ≡ true → l ≢ m → holds_lock (without_last own) m ≡ true
without_old Nothing l m last h other = absurd last
without_old (One k) l m last h other = absurd (other (sym last ∙ eqb-true k m h))
without_old (Two j k) l m last h other = go (either_passes (j == m) (k == m) h)
  where
    go : ((j == m) ≡ true) ⊎ ((k == m) ≡ true) → (j == m) ≡ true
    go (inl first) = first
    go (inr second) = absurd (other (sym last ∙ eqb-true k m second))

-- one lock is not there twice
pub without_apart : (own : Held) → AreApart (without_last own)
without_apart Nothing = tt
without_apart (One k) = tt
without_apart (Two j k) = tt

-- ---- all threads

-- what a thread holds that has other locks now
pub held_same : (held : List Held) (t : ℕ) (locks : Held) → t < length held → held_by (slice_set held t locks) t ≡ locks
held_same held t locks less = ap (λ (o : Option Held). unwrap_or o Nothing) (slice_get-set_same held t locks less)

-- what another one holds
pub held_other : (held : List Held) (t u : ℕ) (locks : Held) → u ≢ t → held_by (slice_set held t locks) u ≡ held_by held u
held_other held t u locks other = ap (λ (o : Option Held). unwrap_or o Nothing) (slice_get-set_other held t u locks other)

-- a free lock is not held
pub not_held : (held : List Held) (l u : ℕ) → is_free held l ≡ true → holds_lock (held_by held u) l ≡ true → ⊥
not_held held l u free h = go (slice_get held u) refl h
  where
    none : list_any (λ locks. holds_lock locks l) held ≡ false
    none = not-true (list_any (λ locks. holds_lock locks l) held) free

    go : (o : Option Held) → slice_get held u ≡ o → holds_lock (unwrap_or o Nothing) l ≡ true → ⊥
    go None is has_it = true≢false (sym has_it)
    go (Some locks) is has_it = true≢false (sym (any_passes_from_place (λ locks. holds_lock locks l) held u locks is has_it) ∙ none)
