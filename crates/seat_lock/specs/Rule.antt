-- The rule of the lock's word and slot: what holds between any two steps.
use Rattle.std.specs.Prelude.{◌≡◌, ℕ, suc, ◌≤◌, [], ◌∷◌, length, slice_index, Option, Some, None}
use mathlib.Core.Option.{some}
use lib.ListN.{get_elem?}
use Rattle.atomic_table.specs.Table.{State}
use Rattle.seat_lock.specs.declared.rule.View.{View}
use Rattle.seat_lock.specs.Tallies.{Pairs, total, below, weight, AreTallied}
use Rattle.seat_lock.specs.Views.{one_if_taken}

-- What holds of what a seat knows, where the lock began with one state and has come to another: its counts are that state's
-- tallies, what it has taken is that state, only a seat with a number has taken it, and such a seat knows the first state.
pub record ViewRule {S : Type 0} (tally : S → ℕ → ℕ) (first now : S) (v : View S) : Type 0 where
  pub counts : AreTallied (tally now) v.owned
  pub has : (x : S) → v.taken ≡ Some x → x ≡ now
  pub idle : v.owned ≡ [] → v.taken ≡ None
  pub knows : (p : ℕ × ℕ) (ps : Pairs) → v.owned ≡ p ∷ ps → v.origin ≡ Some first

-- There is one state that the lock has come to, of one origin with the first. There is one word. Each seat number and the
-- one after them is owned once: the numbers that are owned weigh what these numbers weigh, whatever each weighs. The word
-- is how many seats have taken the state, and that is one at most. Where it is 0 the state is at home in the slot.
pub record LockRule {S : Type 0} (tally : S → ℕ → ℕ) (one_origin : S → S → Type 0) (first : S) (seats : ℕ) (s : State (Option S) (View S)) : Type 0 where
  pub now : S
  pub origin : one_origin first now
  pub wide : length s.words ≡ 1
  pub once : (f : ℕ → ℕ) → total (λ v. weight f v.owned) s.views ≡ below f (suc seats)
  pub busy : total (λ v. one_if_taken v.taken) s.views ≡ slice_index s.words 0
  pub low : slice_index s.words 0 ≤ 1
  pub home : slice_index s.words 0 ≡ 0 → get_elem? s.homes 0 ≡ some (some (Some now))
  pub each : (j : ℕ) (v : View S) → get_elem? s.views j ≡ some v → ViewRule tally first now v
