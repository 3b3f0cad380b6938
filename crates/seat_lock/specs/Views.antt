-- What seats know, and how it is cut up and put together.
use Rattle.std.specs.Prelude.{ℕ, List, [], ◌∷◌, ◌++◌, Option, Some, None}
use Rattle.seat_lock.specs.Tallies.{Pairs, fresh, head_pairs, tail_pairs}
use Rattle.seat_lock.specs.declared.rule.View.{View}

-- one where a state is taken
abbrev pub one_if_taken : {S : Type 0} → Option S → ℕ
one_if_taken None = 0
one_if_taken (Some x) = 1

-- a seat that has taken the state holds the slot, which is empty
abbrev pub slots_for : {S : Type 0} → Option S → List (ℕ × Option S)
slots_for None = []
slots_for (Some x) = (0, None) ∷ []

module _ {S : Type 0} where
  -- the numbers that a seat owns, the state that it has taken, and the state that the lock began with
  abbrev pub view : Pairs → Option S → Option S → View S
  view owned taken origin = record { owned = owned; taken = taken; origin = origin }

  -- at first one seat owns all numbers; the last is that of the lock's own seat
  abbrev pub opened : (S → ℕ → ℕ) → S → ℕ → View S
  opened tally first seats = view (fresh 0 seats ++ (seats, tally first seats) ∷ []) None (Some first)

  -- what stays with a seat whose first number is cut off
  abbrev pub without_first : View S → View S
  without_first v = view (tail_pairs v.owned) v.taken v.origin

  -- what the seat knows that gets this number
  abbrev pub first_alone : View S → View S
  first_alone v = view (head_pairs v.owned) None v.origin

  -- what a seat knows that gets the numbers of another
  abbrev pub both_views : View S → View S → View S
  both_views v w = view (v.owned ++ w.owned) v.taken v.origin

  -- what the other is left with
  abbrev pub spent_view : View S
  spent_view = view [] None None
