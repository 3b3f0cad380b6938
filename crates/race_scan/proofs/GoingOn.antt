-- Sets of two places that are part of that of two other ones.
use Rattle.std.proofs.Common.{◌≡◌, ◌<◌, ℕ, Bool, List, [], ◌∷◌, ◌⊎◌, inl, inr, Option, Some, None, length, sym, ap, subst, ◌∙◌}
use Rattle.std.specs.Prelude.{IsTrue}
use Rattle.trace_laws.specs.Event.{Event}
use Rattle.trace_laws.specs.Trace.{thread_at, Before}
use Rattle.trace_laws.specs.Closed.{ClosedSet, IsClosureBefore}
use Rattle.trace_laws.specs.Traces.{History}
use Rattle.sp_closure.specs.Members.{PlaceSet, has}
use Rattle.race_scan.specs.PairSets.{IsUpTo, IsUpToEither, IsWithin}
use Rattle.race_scan.specs.Pairs.{IsOfPair, IsOfLast}
use Rattle.race_scan.specs.declared.pair_set.Pair.{Pair}
use Rattle.race_scan.proofs.Pairs.{before_pair, pair_before}
use Rattle.race_scan.proofs.Outside.{thread_before}
use Rattle.race_scan.proofs.Pointers.{thread_within}

-- what comes before a place is in each closed set that has the places before one that it is up to
before_up_to : (trace : List Event) (p q : ℕ) (other : ℕ → Bool) → q < length trace → IsUpTo trace p q → ClosedSet trace other → ((i : ℕ) → Before trace i q → IsTrue (other i)) → (j : ℕ) → Before trace j p → IsTrue (other j)
before_up_to trace p q other within up closed holds j before = go (thread_within trace q within)
  where
    go : (t : ℕ) × (thread_at trace q ≡ Some t) → IsTrue (other j)
    go (t, at) = thread_before trace t p q other up.order (up.same ∙ at) at closed holds j before

-- the set of two places is part of that of two other ones, where each is up to one of these
pub part_of_later : (trace : List Event) (p q a b : ℕ) (set : ℕ → Bool) → a < length trace → b < length trace → IsClosureBefore trace (p ∷ q ∷ []) set → IsUpToEither trace p a b → IsUpToEither trace q a b → IsWithin trace set a b
part_of_later trace p q a b set within_a within_b closure up_p up_q other closed all i member = closure.least other closed (λ j h. base j (before_pair trace p q j h)) i member
  where
    below : (k : ℕ) → IsUpToEither trace k a b → (j : ℕ) → Before trace j k → IsTrue (other j)
    below k (inl up) = before_up_to trace k a other within_a up closed (λ i before. all i (pair_before trace a b i (inl before)))
    below k (inr up) = before_up_to trace k b other within_b up closed (λ i before. all i (pair_before trace a b i (inr before)))

    base : (j : ℕ) → Before trace j p ⊎ Before trace j q → IsTrue (other j)
    base j (inl before) = below p up_p j before
    base j (inr before) = below q up_q j before

-- a set that is known to be that of a pair
pub set_of_pair : (trace : History) (set : PlaceSet) (a b : ℕ) → set.trace ≡ trace → a < length trace.events → b < length trace.events → IsClosureBefore trace.events (a ∷ b ∷ []) (has set.members) → IsOfLast set (Some (record { first = a; second = b }))
set_of_pair trace set a b is within_a within_b closure pair last = subst (λ (p : Pair). IsOfPair set p) (ap last_of last) (record {
  first = subst (λ (h : History). a < length h.events) (sym is) within_a;
  second = subst (λ (h : History). b < length h.events) (sym is) within_b;
  closure = subst (λ (h : History). IsClosureBefore h.events (a ∷ b ∷ []) (has set.members)) (sym is) closure;
})
  where
    last_of : Option Pair → Pair
    last_of None = pair
    last_of (Some p) = p
