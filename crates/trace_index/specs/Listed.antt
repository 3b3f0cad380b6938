-- Lists of places by number.
use Rattle.std.specs.Prelude.{◌≡◌, ◌<◌, ◌≤◌, ◌↔◌, ◌+◌, ℕ, max, List, [], ◌∷◌, ◌++◌, Vec, Some, length, slice_get, slice_set, Contains}
use Rattle.std.specs.declared.alloc.Global.{Global}
use Rattle.trace_laws.specs.Reordering.{Rises}

-- the list has exactly the places before place n of which P holds, in the order of the trace
pub record ArePlacesBefore (P : ℕ → Type 0) (n : ℕ) (places : List ℕ) : Type 0 where
  pub order : Rises places
  pub members : (p : ℕ) → Contains places p ↔ ((p < n) × P p)

-- for each number x its places before place n
pub record AreListed (P : ℕ → ℕ → Type 0) (n : ℕ) (lists : List (Vec ℕ Global)) : Type 0 where
  pub listed : (x : ℕ) (places : Vec ℕ Global) → slice_get lists x ≡ Some places → ArePlacesBefore (P x) n places.items
  pub rest : (x p : ℕ) → length lists ≤ x → p < n → P x p → ⊥

-- the old lists, and empty ones behind them as far as the number
pub record ArePadded (old : List (Vec ℕ Global)) (number : ℕ) (new : List (Vec ℕ Global)) : Type 0 where
  pub size : length new ≡ max (length old) (number + 1)
  pub kept : (x : ℕ) (places : Vec ℕ Global) → x < length old → slice_get new x ≡ Some places → slice_get old x ≡ Some places
  pub empty : (x : ℕ) (places : Vec ℕ Global) → length old ≤ x → slice_get new x ≡ Some places → places.items ≡ []

-- the place was added to the list of the number
pub record IsAddedTo (old : List (Vec ℕ Global)) (number place : ℕ) (new : List (Vec ℕ Global)) : Type 0 where
  pub padded : List (Vec ℕ Global)
  pub padding : ArePadded old number padded
  pub before : Vec ℕ Global
  pub after : Vec ℕ Global
  pub at : slice_get padded number ≡ Some before
  pub grown : after.items ≡ before.items ++ place ∷ []
  pub set : new ≡ slice_set padded number after

-- the list of a number, which is empty where there is none
pub record IsListOf (lists : List (Vec ℕ Global)) (x : ℕ) (places : List ℕ) : Type 0 where
  pub there : (v : Vec ℕ Global) → slice_get lists x ≡ Some v → places ≡ v.items
  pub none : length lists ≤ x → places ≡ []
