-- Joined sets by cuts.
use Rattle.std.proofs.Common.{◌≡◌, ◌≢◌, ℕ, zero, suc, ◌+◌, ◌-◌, ◌<◌, ◌≤◌, Bool, List, [], ◌∷◌, length, ◌⊎◌, Some, inl, inr, refl, sym, ap, subst, ◌∙◌, arith, get_or-set_same, get_or-set_other}
use Rattle.std.specs.Prelude.{IsTrue, max, slice_index, slice_set}
use Rattle.std.proofs.lemmas.Bool.{cases_eq}
use Rattle.trace_laws.specs.Event.{Event}
use Rattle.trace_laws.specs.Trace.{thread_at, Before, Reads, IsLastWrite}
use Rattle.trace_laws.specs.Closed.{ClosedSet, HoldsAll}
use Rattle.trace_laws.proofs.Places.{three_way}
use Rattle.closed_fronts.specs.Cuts.{IsHeld, Admits}
use Rattle.closed_fronts.specs.Rows.{AreZero, IsJoin, IsSteady, AreWithin, IsMended, IsRow}

-- how much the cuts may still rise
abbrev pub room : ℕ → List ℕ → ℕ
room bound [] = 0
room bound (x ∷ cuts) = (bound - x) + room bound cuts

-- cuts that do not fall leave no more room
room_least : (bound : ℕ) (a b : List ℕ) → length b ≡ length a → ((t : ℕ) → slice_index a t ≤ slice_index b t) → room bound b ≤ room bound a
room_least bound [] [] size up = omega arith
room_least bound [] (y ∷ b) size up = absurd (omega arith)
room_least bound (x ∷ a) [] size up = absurd (omega arith)
room_least bound (x ∷ a) (y ∷ b) size up =
    let rest = room_least bound a b (omega arith) (λ t. up (suc t)) in
    let here : x ≤ y = up zero in
    omega arith

-- and less where one rises within the bound
pub room_less : (bound : ℕ) (a b : List ℕ) (t : ℕ) → length b ≡ length a → ((u : ℕ) → slice_index a u ≤ slice_index b u) → slice_index a t < slice_index b t → slice_index b t ≤ bound → room bound b < room bound a
room_less bound [] [] t size up less within = absurd (let none : 0 < 0 = less in omega arith)
room_less bound [] (y ∷ b) t size up less within = absurd (omega arith)
room_less bound (x ∷ a) [] t size up less within = absurd (omega arith)
room_less bound (x ∷ a) (y ∷ b) zero size up less within =
    let rest = room_least bound a b (omega arith) (λ u. up (suc u)) in
    let here : x < y = less in
    let top : y ≤ bound = within in
    omega arith
room_less bound (x ∷ a) (y ∷ b) (suc t) size up less within =
    let rest = room_less bound a b t (omega arith) (λ u. up (suc u)) less within in
    let here : x ≤ y = up zero in
    omega arith

-- one cut more is joined
pub joined_next : (old row cuts : List ℕ) (n v : ℕ) → n < length cuts → v ≡ max (slice_index cuts n) (slice_index row n)
    → ((t : ℕ) → t < n → slice_index cuts t ≡ max (slice_index old t) (slice_index row t)) → ((t : ℕ) → n ≤ t → slice_index cuts t ≡ slice_index old t)
    → (t : ℕ) → t < n + 1 → slice_index (slice_set cuts n v) t ≡ max (slice_index old t) (slice_index row t)
joined_next old row cuts n v within is done rest t less = go (cases_eq t n)
  where
    here : slice_index (slice_set cuts n v) n ≡ max (slice_index old n) (slice_index row n)
    here = get_or-set_same cuts n v 0 within ∙ is ∙ ap (λ (k : ℕ). max k (slice_index row n)) (rest n (omega arith))

    go : (t ≡ n) ⊎ (t ≢ n) → slice_index (slice_set cuts n v) t ≡ max (slice_index old t) (slice_index row t)
    go (inl same) = subst (λ (k : ℕ). slice_index (slice_set cuts n v) k ≡ max (slice_index old k) (slice_index row k)) (sym same) here
    go (inr other) = get_or-set_other cuts n t v 0 other ∙ done t (omega (arith, other))

-- and those behind it stay
pub joined_rest : (old cuts : List ℕ) (n v : ℕ) → ((t : ℕ) → n ≤ t → slice_index cuts t ≡ slice_index old t) → (t : ℕ) → n + 1 ≤ t → slice_index (slice_set cuts n v) t ≡ slice_index old t
joined_rest old cuts n v rest t past = get_or-set_other cuts n t v 0 (λ same. omega arith) ∙ rest t (omega arith)

-- there is no cut behind the last
pub none_past : (xs : List ℕ) (t : ℕ) → length xs ≤ t → slice_index xs t ≡ 0
none_past [] t past = refl
none_past (x ∷ xs) zero past = absurd (omega arith)
none_past (x ∷ xs) (suc t) past = none_past xs t (omega arith)

-- all cuts are joined
pub joined_all : (old row cuts : List ℕ) (n : ℕ) → length cuts ≡ length old → length old ≡ length row → length cuts ≤ n
    → ((t : ℕ) → t < n → slice_index cuts t ≡ max (slice_index old t) (slice_index row t)) → IsJoin old row cuts
joined_all old row cuts n size both past done = record { size = size; each = λ t. go t (three_way t n) }
  where
    go : (t : ℕ) → (t < n) ⊎ ((t ≡ n) ⊎ (n < t)) → slice_index cuts t ≡ max (slice_index old t) (slice_index row t)
    go t (inl less) = done t less
    go t (inr more) = let beyond : length cuts ≤ t = far t more in let x = none_past old t (omega arith) in let y = none_past row t (omega arith) in let z = none_past cuts t beyond in omega arith
      where
        far : (t : ℕ) → (t ≡ n) ⊎ (n < t) → length cuts ≤ t
        far t (inl same) = omega arith
        far t (inr less) = omega arith

-- a row below a cut is below some cut, and none is where none is so far
module _ (events : List Event) where
  -- what either set holds, the union holds
  pub held_left : (a b c : List ℕ) → IsJoin a b c → (i : ℕ) → IsHeld events a i → IsHeld events c i
  held_left a b c join i h = let each = join.each h.thread in let below = h.below in record { thread = h.thread; is_of = h.is_of; below = omega arith }

  -- the same of the other
  pub held_right : (a b c : List ℕ) → IsJoin a b c → (i : ℕ) → IsHeld events b i → IsHeld events c i
  held_right a b c join i h = let each = join.each h.thread in let below = h.below in record { thread = h.thread; is_of = h.is_of; below = omega arith }

  -- and it holds nothing else
  pub held_either : (a b c : List ℕ) → IsJoin a b c → (i : ℕ) → IsHeld events c i → IsHeld events a i ⊎ IsHeld events b i
  held_either a b c join i h = go (three_way i (slice_index a h.thread))
    where
      other : slice_index a h.thread ≤ i → IsHeld events b i
      other past = let each = join.each h.thread in let below = h.below in record { thread = h.thread; is_of = h.is_of; below = omega arith }

      go : (i < slice_index a h.thread) ⊎ ((i ≡ slice_index a h.thread) ⊎ (slice_index a h.thread < i)) → IsHeld events a i ⊎ IsHeld events b i
      go (inl less) = inl (record { thread = h.thread; is_of = h.is_of; below = less })
      go (inr (inl same)) = inr (other (omega arith))
      go (inr (inr more)) = inr (other (omega arith))

  -- the union of two steady sets is steady
  pub steady_join : (threads : ℕ) (a b c : List ℕ) → IsJoin a b c → IsSteady events threads a → IsSteady events threads b → IsSteady events threads c
  steady_join threads a b c join first second = record {
    size = join.size ∙ first.size;
    placed = λ t k is. placed t k is (three_way (slice_index a t) (slice_index b t));
    program = λ i j before h. program i j before (held_either a b c join j h);
    writers = λ r x w reads last h. writers r x w reads last (held_either a b c join r h);
  }
    where
      placed : (t k : ℕ) → slice_index c t ≡ k + 1 → (slice_index a t < slice_index b t) ⊎ ((slice_index a t ≡ slice_index b t) ⊎ (slice_index b t < slice_index a t)) → thread_at events k ≡ Some t
      placed t k is (inl less) = second.placed t k (let each = join.each t in omega arith)
      placed t k is (inr (inl same)) = first.placed t k (let each = join.each t in omega arith)
      placed t k is (inr (inr more)) = first.placed t k (let each = join.each t in omega arith)

      program : (i j : ℕ) → Before events i j → IsHeld events a j ⊎ IsHeld events b j → IsHeld events c i
      program i j before (inl h) = held_left a b c join i (first.program i j before h)
      program i j before (inr h) = held_right a b c join i (second.program i j before h)

      writers : (r x w : ℕ) → Reads events r x → IsLastWrite events ◌<◌ r x w → IsHeld events a r ⊎ IsHeld events b r → IsHeld events c w
      writers r x w reads last (inl h) = held_left a b c join w (first.writers r x w reads last h)
      writers r x w reads last (inr h) = held_right a b c join w (second.writers r x w reads last h)

  -- a row that is joined admits its place
  pub admits_row : (threads place : ℕ) (a b c : List ℕ) → IsJoin a b c → IsRow events threads place b → Admits events (λ i. i ≡ place) a c
  admits_row threads place a b c join row = record {
    size = join.size;
    keeps = held_left a b c join;
    holds = λ i same. subst (λ (k : ℕ). IsHeld events c k) (sym same) (held_right a b c join place row.holds);
    least = λ other closed all own i h. least other closed all own i (held_either a b c join i h);
  }
    where
      least : (other : ℕ → Bool) → ClosedSet events other → HoldsAll (IsHeld events a) other → HoldsAll (λ i. i ≡ place) other → (i : ℕ) → IsHeld events a i ⊎ IsHeld events b i → IsTrue (other i)
      least other closed all own i (inl h) = all i h
      least other closed all own i (inr h) = row.least other closed (own place refl) i h

-- the union stays within a bound of both
pub within_join : (a b c : List ℕ) (m n : ℕ) → IsJoin a b c → AreWithin a m → AreWithin b n → n ≤ m → AreWithin c m
within_join a b c m n join first second le t = let each = join.each t in let x = first t in let y = second t in omega arith

-- no cut of the union is below that of the first
pub join_rises : (a b c : List ℕ) → IsJoin a b c → (t : ℕ) → slice_index a t ≤ slice_index c t
join_rises a b c join t = let each = join.each t in omega arith

-- a set that is joined to the empty one stays closed under the rule of releases
pub mended_alone : (events : List Event) (a b c : List ℕ) → IsJoin a b c → AreZero a → IsMended events b → IsMended events c
mended_alone events a b c join none mended x y r excludes release first second = held_right events a b c join r (mended x y r excludes release (back x first) (back y second))
  where
    back : (i : ℕ) → IsHeld events c i → IsHeld events b i
    back i h = record { thread = h.thread; is_of = h.is_of; below = let each = join.each h.thread in let z = none h.thread in let below = h.below in omega arith }

-- a list of zeros is zero everywhere
pub zero_all : (cuts : List ℕ) (n : ℕ) → length cuts ≤ n → ((t : ℕ) → t < n → slice_index cuts t ≡ 0) → AreZero cuts
zero_all cuts n past below t = go (three_way t n)
  where
    go : (t < n) ⊎ ((t ≡ n) ⊎ (n < t)) → slice_index cuts t ≡ 0
    go (inl less) = below t less
    go (inr (inl same)) = none_past cuts t (omega arith)
    go (inr (inr more)) = none_past cuts t (omega arith)
