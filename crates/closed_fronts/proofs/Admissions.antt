-- Sets that grow by what they need.
use Rattle.std.proofs.Common.{ℕ, Bool, List, ◌⊎◌, inl, inr, refl, ◌∙◌}
use Rattle.std.specs.Prelude.{IsTrue}
use Rattle.trace_laws.specs.Event.{Event}
use Rattle.trace_laws.specs.Closed.{ClosedSet, HoldsAll, IsClosure}
use Rattle.closed_fronts.specs.Members.{has}
use Rattle.closed_fronts.specs.Cuts.{IsHeld, flags_of, Admits}
use Rattle.closed_fronts.proofs.Flags.{held_from_has, has_from_held}

module _ (events : List Event) where
  -- the same where another property says the same in closed sets
  pub admits_under : (P Q : ℕ → Type 0) (old new : List ℕ) → ((i : ℕ) → Q i → P i) → ((other : ℕ → Bool) → ClosedSet events other → HoldsAll Q other → HoldsAll P other) → Admits events P old new → Admits events Q old new
  admits_under P Q old new to from h = record {
    size = h.size;
    keeps = h.keeps;
    holds = λ i q. h.holds i (to i q);
    least = λ other closed all of_Q. h.least other closed all (from other closed of_Q);
  }

  -- the same where the property is another's word
  pub admits_same : (P Q : ℕ → Type 0) (old new : List ℕ) → ((i : ℕ) → Q i → P i) → ((i : ℕ) → P i → Q i) → Admits events P old new → Admits events Q old new
  admits_same P Q old new to from h = admits_under P Q old new to (λ other closed all i p. all i (from i p)) h

  -- where P holds of no place, the set stays
  pub admits_none : (P : ℕ → Type 0) (cuts : List ℕ) → ((i : ℕ) → P i → ⊥) → Admits events P cuts cuts
  admits_none P cuts none = record { size = refl; keeps = λ i h. h; holds = λ i p. absurd (none i p); least = λ other closed all of_P i h. all i h }

  -- what is forced by the old set alone
  pub admits_forced : (P : ℕ → Type 0) (old new : List ℕ) → ((other : ℕ → Bool) → ClosedSet events other → HoldsAll (IsHeld events old) other → HoldsAll P other) → Admits events P old new → Admits events (λ _. ⊥) old new
  admits_forced P old new forced h = record {
    size = h.size;
    keeps = h.keeps;
    holds = λ i p. absurd p;
    least = λ other closed all none. h.least other closed all (forced other closed all);
  }

  -- and one step more of it
  pub admits_more : (a b c : List ℕ) → Admits events (λ _. ⊥) a b → Admits events (λ _. ⊥) b c → Admits events (λ _. ⊥) a c
  admits_more a b c first second = record {
    size = second.size ∙ first.size;
    keeps = λ i h. second.keeps i (first.keeps i h);
    holds = λ i p. absurd p;
    least = λ other closed all none. second.least other closed (first.least other closed all none) none;
  }

-- the closure of a set after places were admitted is that of the set with these places
pub closure_after : (events : List Event) (P : ℕ → Type 0) (old mid : List ℕ) (set : ℕ → Bool) → Admits events P old mid → IsClosure events (IsHeld events mid) set → IsClosure events (λ i. IsTrue (has (flags_of events old) i) ⊎ P i) set
closure_after events P old mid set admits closure = record {
  closed = closure.closed;
  all = all;
  least = λ other closed holds i h. closure.least other closed (admits.least other closed (λ j k. holds j (inl (has_from_held events old j k))) (λ j p. holds j (inr p))) i h;
}
  where
    all : (i : ℕ) → IsTrue (has (flags_of events old) i) ⊎ P i → IsTrue (set i)
    all i (inl h) = closure.all i (admits.keeps i (held_from_has events old i h))
    all i (inr p) = closure.all i (admits.holds i p)
