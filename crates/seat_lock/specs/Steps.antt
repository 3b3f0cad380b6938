-- What the steps of a seat leave it with.
use Rattle.std.specs.Prelude.{◌≡◌, ◌≢◌, ℕ, [], ◌∷◌, Option, Some, None}
use Rattle.atomic_table.specs.Table.{Me, Step}
use Rattle.seat_lock.specs.declared.rule.View.{View}
use Rattle.seat_lock.specs.Tallies.{AreTallied}
use Rattle.seat_lock.specs.Views.{view}

-- what a seat knows, and the slots that it holds
abbrev pub Seated : Type 0 → Type 0
Seated S = Me (Option S) (View S)

module _ {S : Type 0} where
  -- the seat has taken the state, and holds the slot with it
  abbrev pub having : Seated S → S → Seated S
  having before x = (view before.0.owned (Some x) before.0.origin, (0, Some x) ∷ before.1)

  -- the seat has taken a state whose tallies are its counts, of one origin with the first
  pub record HasTaken (tally : S → ℕ → ℕ) (one_origin : S → S → Type 0) (before after : Seated S) : Type 0 where
    pub state : S
    pub left : after ≡ having before state
    pub counts : AreTallied (tally state) before.0.owned
    pub origin : (first : S) → before.0.origin ≡ Some first → one_origin first state

  -- a take that finds 0 takes the state, and one that finds anything else changes nothing
  pub record Takes (tally : S → ℕ → ℕ) (one_origin : S → S → Type 0) (before : Seated S) (found : ℕ) (after : Seated S) : Type 0 where
    pub free : found ≡ 0 → HasTaken tally one_origin before after
    pub held : found ≢ 0 → after ≡ before

  -- a take, of whatever word and numbers
  abbrev pub took : (S → ℕ → ℕ) → (S → S → Type 0) → Step (Option S) → Seated S → ℕ → Seated S → Type 0
  took tally one_origin step before found after = Takes tally one_origin before found after

  -- a give leaves the seat with no slot, and its count is the tally of the state that was in it
  abbrev pub gave : (S → ℕ → ℕ) → Step (Option S) → Seated S → ℕ → Seated S → Type 0
  gave tally step before found after = (state : S) (number count : ℕ) → before.1 ≡ (0, Some state) ∷ [] → before.0.owned ≡ (number, count) ∷ []
      → after ≡ (view ((number, tally state number) ∷ []) None before.0.origin, [])
