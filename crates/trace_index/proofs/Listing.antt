-- Listing places by number.
use Rattle.std.proofs.Common.{◌≡◌, ◌≢◌, ℕ, ◌+◌, ◌<◌, ◌≤◌, List, [], ◌∷◌, ◌++◌, length, get_or, Some, None, ◌⊎◌, inl, inr, sym, subst, ◌∙◌, arith}
use Rattle.std.specs.Prelude.{slice_get, slice_set, Vec, Contains}
use Rattle.std.specs.declared.alloc.Global.{Global}
use Rattle.std.proofs.Math.ListN.{length-set}
use Rattle.std.proofs.lemmas.Bool.{cases_eq}
use Rattle.std.proofs.lemmas.Option.{slice_get_within, slice_get_cases}
use Rattle.std.proofs.lemmas.List.Elements.{Contains-push, Contains-push_cases, Contains-append_left}
use Rattle.trace_laws.proofs.Places.{contains_none, three_way}
use Rattle.trace_laws.proofs.Enabling.{Rises-push}
use Rattle.trace_laws.proofs.Growing.{slice_get-set_same, slice_get-set_other}
use Rattle.trace_index.specs.Listed.{ArePlacesBefore, AreListed, ArePadded, IsAddedTo, IsListOf}

-- no place is before the first
none_before : (P : ℕ → Type 0) → ArePlacesBefore P 0 []
none_before P = record {
  order = λ a b i j less at_a at_b. cc;
  members = λ p. (λ c. absurd (contains_none p c), λ h. let less = h.0 in absurd (omega arith));
}

-- where P holds of no place before place n, the empty list has them
nothing_before : (P : ℕ → Type 0) (n : ℕ) → ((p : ℕ) → p < n → P p → ⊥) → ArePlacesBefore P n []
nothing_before P n never = record {
  order = (none_before P).order;
  members = λ p. (λ c. absurd (contains_none p c), λ h. absurd (never p h.0 h.1));
}

-- no lists have the places before the first
pub listed_none : (P : ℕ → ℕ → Type 0) → AreListed P 0 []
listed_none P = record {
  listed = λ x v at. cc;
  rest = λ x p past less holds. omega arith;
}

-- a place of which P does not hold leaves the list
stays : (P : ℕ → Type 0) (n : ℕ) (places : List ℕ) → (P n → ⊥) → ArePlacesBefore P n places → ArePlacesBefore P (n + 1) places
stays P n places other old = record {
  order = old.order;
  members = λ p. (λ c. let h = (old.members p).0 c in (let less = h.0 in omega arith, h.1), λ h. back p h (cases_eq p n));
}
  where
    back : (p : ℕ) → (p < n + 1) × P p → (p ≡ n) ⊎ (p ≢ n) → Contains places p
    back p h (inl same) = absurd (other (subst P same h.1))
    back p h (inr place) = (old.members p).1 (let less = h.0 in omega (arith, place), h.1)

-- a place of which P holds is the last one
adds : (P : ℕ → Type 0) (n : ℕ) (places : List ℕ) → P n → ArePlacesBefore P n places → ArePlacesBefore P (n + 1) (places ++ n ∷ [])
adds P n places holds old = record {
  order = Rises-push places n old.order (λ i c. ((old.members i).0 c).0);
  members = λ p. (λ c. forth p (Contains-push_cases places n p c), λ h. back p h (cases_eq p n));
}
  where
    forth : (p : ℕ) → Contains places p ⊎ (n ≡ p) → (p < n + 1) × P p
    forth p (inl c) = let h = (old.members p).0 c in (let less = h.0 in omega arith, h.1)
    forth p (inr same) = subst (λ (k : ℕ). (k < n + 1) × P k) same (omega arith, holds)

    back : (p : ℕ) → (p < n + 1) × P p → (p ≡ n) ⊎ (p ≢ n) → Contains (places ++ n ∷ []) p
    back p h (inl same) = subst (λ (k : ℕ). Contains (places ++ n ∷ []) k) (sym same) (Contains-push places n)
    back p h (inr place) = Contains-append_left places (n ∷ []) p ((old.members p).1 (let less = h.0 in omega (arith, place), h.1))

-- a place of no number changes no list
pub listed_past : (P : ℕ → ℕ → Type 0) (n : ℕ) (lists : List (Vec ℕ Global)) → ((x : ℕ) → P x n → ⊥) → AreListed P n lists → AreListed P (n + 1) lists
listed_past P n lists none old = record {
  listed = λ x v at. stays (P x) n v.items (none x) (old.listed x v at);
  rest = λ x p past less holds. go x p past less holds (cases_eq p n);
}
  where
    go : (x p : ℕ) → length lists ≤ x → p < n + 1 → P x p → (p ≡ n) ⊎ (p ≢ n) → ⊥
    go x p past less holds (inl same) = none x (subst (P x) same holds)
    go x p past less holds (inr place) = old.rest x p past (omega (arith, place)) holds

-- a list is there or past the end
there_or_past : (lists : List (Vec ℕ Global)) (x : ℕ) → (x < length lists) ⊎ (length lists ≤ x)
there_or_past lists x = go (three_way x (length lists))
  where
    go : (x < length lists) ⊎ ((x ≡ length lists) ⊎ (length lists < x)) → (x < length lists) ⊎ (length lists ≤ x)
    go (inl h) = inl h
    go (inr (inl h)) = inr (omega arith)
    go (inr (inr h)) = inr (omega arith)

-- empty lists change nothing
padded : (P : ℕ → ℕ → Type 0) (n : ℕ) (old : List (Vec ℕ Global)) (number : ℕ) (new : List (Vec ℕ Global)) → ArePadded old number new → AreListed P n old → AreListed P n new
padded P n old number new pads listed = record {
  listed = λ x v at. go x v at (there_or_past old x);
  rest = λ x p past less holds. let size = pads.size in listed.rest x p (omega arith) less holds;
}
  where
    go : (x : ℕ) (v : Vec ℕ Global) → slice_get new x ≡ Some v → (x < length old) ⊎ (length old ≤ x) → ArePlacesBefore (P x) n v.items
    go x v at (inl less) = listed.listed x v (pads.kept x v less at)
    go x v at (inr past) = subst (ArePlacesBefore (P x) n) (sym (pads.empty x v past at)) (nothing_before (P x) n (λ p less holds. listed.rest x p past less holds))

-- a place is added to the list of its only number
pub listed_added : (P : ℕ → ℕ → Type 0) (n x : ℕ) (old new : List (Vec ℕ Global)) → P x n → ((y : ℕ) → P y n → y ≡ x) → IsAddedTo old x n new → AreListed P n old → AreListed P (n + 1) new
listed_added P n x old new holds only added before = subst (AreListed P (n + 1)) (sym added.set) (record {
  listed = λ y u at. go y u at (cases_eq y x);
  rest = λ y p past less other. rest y p past less other (cases_eq p n);
})
  where
    lists : List (Vec ℕ Global)
    lists = added.padded

    listed : AreListed P n lists
    listed = padded P n old x lists added.padding before

    within : x < length lists
    within = slice_get_within lists x added.before added.at

    w : Vec ℕ Global
    w = added.after

    own : ArePlacesBefore (P x) (n + 1) w.items
    own = subst (ArePlacesBefore (P x) (n + 1)) (sym added.grown) (adds (P x) n added.before.items holds (listed.listed x added.before added.at))

    go : (y : ℕ) (u : Vec ℕ Global) → slice_get (slice_set lists x w) y ≡ Some u → (y ≡ x) ⊎ (y ≢ x) → ArePlacesBefore (P y) (n + 1) u.items
    go y u at (inl same) =
        let now : slice_get (slice_set lists x w) x ≡ Some w = slice_get-set_same lists x w within in
        let there : slice_get (slice_set lists x w) x ≡ Some u = subst (λ (k : ℕ). slice_get (slice_set lists x w) k ≡ Some u) same at in
        let is : w ≡ u = cc in
        subst (λ (k : ℕ). ArePlacesBefore (P k) (n + 1) u.items) (sym same) (subst (λ (k : Vec ℕ Global). ArePlacesBefore (P x) (n + 1) k.items) is own)
    go y u at (inr other) = stays (P y) n u.items (λ h. other (only y h)) (listed.listed y u (sym (slice_get-set_other lists x y w other) ∙ at))

    rest : (y p : ℕ) → length (slice_set lists x w) ≤ y → p < n + 1 → P y p → (p ≡ n) ⊎ (p ≢ n) → ⊥
    rest y p past less other (inl same) =
        let is : y ≡ x = only y (subst (P y) same other) in
        let size = length-set lists x w in
        let inside = within in
        omega arith
    rest y p past less other (inr place) = let size = length-set lists x w in listed.rest y p (omega arith) (omega (arith, place)) other

-- the list of a number has its places
pub list_of : (P : ℕ → ℕ → Type 0) (n x : ℕ) (lists : List (Vec ℕ Global)) (places : List ℕ) → AreListed P n lists → IsListOf lists x places → ArePlacesBefore (P x) n places
list_of P n x lists places listed is = go (slice_get_cases lists x).1
  where
    go : ((v : Vec ℕ Global) × (x < length lists) × (slice_get lists x ≡ Some v) × (get_or lists x v ≡ v)) ⊎ ((length lists ≤ x) × (slice_get lists x ≡ None)) → ArePlacesBefore (P x) n places
    go (inl h) = subst (ArePlacesBefore (P x) n) (sym (is.there h.0 h.2)) (listed.listed x h.0 h.2)
    go (inr h) = subst (ArePlacesBefore (P x) n) (sym (is.none h.0)) (nothing_before (P x) n (λ p before holds. listed.rest x p h.0 before holds))
