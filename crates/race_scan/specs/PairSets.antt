-- Sets of the places before two places, one after the other.
use Rattle.std.specs.Prelude.{◌≡◌, ◌≤◌, ◌⊎◌, ℕ, List, [], ◌∷◌, Bool, IsTrue}
use Rattle.trace_laws.specs.Event.{Event}
use Rattle.trace_laws.specs.Trace.{thread_at}
use Rattle.trace_laws.specs.Closed.{ClosedSet, HoldsAll, BeforeAny}

-- place p is the place q, or stands before it in the same thread
pub record IsUpTo (events : List Event) (p q : ℕ) : Type 0 where
  pub order : p ≤ q
  pub same : thread_at events p ≡ thread_at events q

-- place p is at or before one of two places, in its thread
abbrev pub IsUpToEither : List Event → ℕ → ℕ → ℕ → Type 0
IsUpToEither events p a b = IsUpTo events p a ⊎ IsUpTo events p b

-- each closed set that has all places before a and b has the set
abbrev pub IsWithin : List Event → (ℕ → Bool) → ℕ → ℕ → Type 0
IsWithin events set a b = (other : ℕ → Bool) → ClosedSet events other → HoldsAll (BeforeAny events (a ∷ b ∷ [])) other → (i : ℕ) → IsTrue (set i) → IsTrue (other i)
