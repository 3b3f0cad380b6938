-- Positions in lists of places.
use Rattle.std.proofs.Common.{◌≡◌, ◌≢◌, ℕ, zero, suc, ◌+◌, ◌<◌, ◌≤◌, List, [], ◌∷◌, ◌++◌, length, get_or, Some, ◌⊎◌, inl, inr, refl, sym, ap, subst, ◌∙◌, arith, length-append}
use Rattle.std.specs.Prelude.{slice_get, Vec}
use Rattle.std.specs.declared.alloc.Global.{Global}
use Rattle.std.proofs.lemmas.Bool.{cases_eq}
use Rattle.std.proofs.lemmas.Option.{slice_get_within, slice_get-get_or}
use Rattle.trace_laws.specs.Reordering.{Rises}
use Rattle.trace_laws.proofs.Places.{contains_at, slice_get-append_left, slice_get-append_seam}
use Rattle.trace_laws.proofs.Growing.{slice_get-set_same, slice_get-set_other}
use Rattle.trace_index.specs.Listed.{ArePlacesBefore, IsAddedTo, IsListOf}
use Rattle.trace_index.specs.Acquired.{StandsAt}

-- the list that stands at a number is the list of that number
pub list_at : (lists : List (Vec ℕ Global)) (x : ℕ) (v : Vec ℕ Global) → slice_get lists x ≡ Some v → IsListOf lists x v.items
list_at lists x v at = record {
  there = λ u at_u. let same : v ≡ u = cc in ap (λ (w : Vec ℕ Global). w.items) same;
  none = λ past. let within = slice_get_within lists x v at in absurd (omega arith);
}

module _ (old : List (Vec ℕ Global)) (number place : ℕ) (new : List (Vec ℕ Global)) (added : IsAddedTo old number place new) where
  -- the number has a list
  within : number < length added.padded
  within = slice_get_within added.padded number added.before added.at

  -- which is the grown one
  grown_there : slice_get new number ≡ Some added.after
  grown_there = subst (λ (xs : List (Vec ℕ Global)). slice_get xs number ≡ Some added.after) (sym added.set) (slice_get-set_same added.padded number added.after within)

  -- there is one
  pub added_within : number < length new
  added_within = slice_get_within new number added.after grown_there

  -- it is not empty
  pub added_some : (v : Vec ℕ Global) → slice_get new number ≡ Some v → 0 < length v.items
  added_some v at =
      let there = grown_there in
      let same : v ≡ added.after = cc in
      let size = ap (λ (w : Vec ℕ Global). length w.items) same in
      let grown = ap (λ (xs : List ℕ). length xs) added.grown in
      let more = length-append added.before.items (place ∷ []) in
      omega arith

  -- the added place stands last
  pub added_stands : (v : Vec ℕ Global) (k : ℕ) → slice_get new number ≡ Some v → k + 1 ≡ length v.items → StandsAt new number k place
  added_stands v k at last = record {
    list = added.after;
    at = grown_there;
    entry = subst (λ (xs : List ℕ). slice_get xs k ≡ Some place) (sym added.grown) (subst (λ (j : ℕ). slice_get (added.before.items ++ place ∷ []) j ≡ Some place) is (slice_get-append_seam added.before.items place));
  }
    where
      is : length added.before.items ≡ k
      is =
          let there = grown_there in
          let same : v ≡ added.after = cc in
          let size = ap (λ (w : Vec ℕ Global). length w.items) same in
          let grown = ap (λ (xs : List ℕ). length xs) added.grown in
          let more = length-append added.before.items (place ∷ []) in
          omega arith

  -- what stood somewhere stands there still
  pub stands_after : (x k p : ℕ) → StandsAt old x k p → StandsAt new x k p
  stands_after x k p stands = go (cases_eq x number)
    where
      inside : x < length old
      inside = slice_get_within old x stands.list stands.at

      padded : slice_get added.padded x ≡ Some (get_or added.padded x stands.list)
      padded = slice_get-get_or added.padded x stands.list (let size = added.padding.size in let less = inside in grind arith)

      same : get_or added.padded x stands.list ≡ stands.list
      same = let kept = added.padding.kept x (get_or added.padded x stands.list) inside padded in let at = stands.at in cc

      at_padded : slice_get added.padded x ≡ Some stands.list
      at_padded = padded ∙ ap Some same

      go : (x ≡ number) ⊎ (x ≢ number) → StandsAt new x k p
      go (inl is) = record {
        list = added.after;
        at = subst (λ (n : ℕ). slice_get new n ≡ Some added.after) (sym is) grown_there;
        entry = subst (λ (xs : List ℕ). slice_get xs k ≡ Some p) (sym added.grown) (slice_get-append_left added.before.items (place ∷ []) k (slice_get_within added.before.items k p entry) ∙ entry);
      }
        where
          entry : slice_get added.before.items k ≡ Some p
          entry =
              let there : slice_get added.padded number ≡ Some stands.list = subst (λ (n : ℕ). slice_get added.padded n ≡ Some stands.list) is at_padded in
              let before = added.at in
              let one : stands.list ≡ added.before = cc in
              subst (λ (w : Vec ℕ Global). slice_get w.items k ≡ Some p) one stands.entry
      go (inr other) = record {
        list = stands.list;
        at = subst (λ (xs : List (Vec ℕ Global)). slice_get xs x ≡ Some stands.list) (sym added.set) (slice_get-set_other added.padded number x added.after other ∙ at_padded);
        entry = stands.entry;
      }

-- a place of a list that rises is at least its position
at_least : (xs : List ℕ) → Rises xs → (i : ℕ) → i < length xs → i ≤ get_or xs i 0
at_least xs rises zero less = omega arith
at_least xs rises (suc i) less =
    let under = at_least xs rises i (omega arith) in
    let step = rises i (suc i) (get_or xs i 0) (get_or xs (suc i) 0) (omega arith) (slice_get-get_or xs i 0 (omega arith)) (slice_get-get_or xs (suc i) 0 less) in
    omega arith

-- so there are at most as many places below place n as that
pub few_before : (P : ℕ → Type 0) (n : ℕ) (places : List ℕ) → ArePlacesBefore P n places → length places ≤ n
few_before P n places before = go (length places) refl
  where
    go : (k : ℕ) → length places ≡ k → k ≤ n
    go zero is = omega arith
    go (suc k) is =
        let under = at_least places before.order k (omega arith) in
        let less = ((before.members (get_or places k 0)).0 (contains_at places k (get_or places k 0) (slice_get-get_or places k 0 (omega arith)))).0 in
        omega arith
