-- Closures of the places before picks.
use Rattle.std.proofs.Common.{◌≡◌, ◌≢◌, ℕ, Bool, List, [], ◌∷◌, ◌++◌, Some, ◌⊎◌, inl, inr, sym, subst, ◌∙◌}
use Rattle.std.specs.Prelude.{slice_get, slice_set, Contains, IsTrue}
use Rattle.std.proofs.lemmas.Bool.{cases_eq}
use Rattle.std.proofs.lemmas.Option.{slice_get_within}
use Rattle.std.proofs.lemmas.List.Elements.{Contains-push, Contains-push_cases, Contains-append_left}
use Rattle.trace_laws.specs.Event.{Event}
use Rattle.trace_laws.specs.Trace.{Before}
use Rattle.trace_laws.specs.Closed.{ClosedSet, IsClosure, IsClosureBefore, BeforeAny}
use Rattle.trace_laws.proofs.Places.{index_of, contains_at}
use Rattle.trace_laws.proofs.Growing.{slice_get-set_same, slice_get-set_other}

-- the closure before picks, raised by one more
pub closure_push : (trace : List Event) (picks : List ℕ) (p : ℕ) (set more : ℕ → Bool) → IsClosureBefore trace picks set → IsClosure trace (λ i. IsTrue (set i) ⊎ Before trace i p) more → IsClosureBefore trace (picks ++ p ∷ []) more
closure_push trace picks p set more old raised = record {
  closed = raised.closed;
  all = λ i h. all i h.pick h.before (Contains-push_cases picks p h.pick h.is_pick);
  least = λ other closed holds i member. raised.least other closed (λ j h. base other closed holds j h) i member;
}
  where
    all : (i pick : ℕ) → Before trace i pick → Contains picks pick ⊎ (p ≡ pick) → IsTrue (more i)
    all i pick before (inl c) = raised.all i (inl (old.all i (record { pick = pick; is_pick = c; before = before })))
    all i pick before (inr same) = raised.all i (inr (subst (Before trace i) (sym same) before))

    base : (other : ℕ → Bool) → ClosedSet trace other → ((j : ℕ) → BeforeAny trace (picks ++ p ∷ []) j → IsTrue (other j)) → (j : ℕ) → IsTrue (set j) ⊎ Before trace j p → IsTrue (other j)
    base other closed holds j (inl member) = old.least other closed (λ k h. holds k (record { pick = h.pick; is_pick = Contains-append_left picks (p ∷ []) h.pick h.is_pick; before = h.before })) j member
    base other closed holds j (inr before) = holds j (record { pick = p; is_pick = Contains-push picks p; before = before })

-- the closure before picks of which one moves on to a later place of its thread, raised by that place
pub closure_moves : (trace : List Event) (picks : List ℕ) (i p q : ℕ) (set more : ℕ → Bool) → IsClosureBefore trace picks set → slice_get picks i ≡ Some p → Before trace p q → IsClosure trace (λ j. IsTrue (set j) ⊎ Before trace j q) more → IsClosureBefore trace (slice_set picks i q) more
closure_moves trace picks i p q set more old at later raised = record {
  closed = raised.closed;
  all = λ j h. all j h.pick h.before (index_of (slice_set picks i q) h.pick h.is_pick);
  least = λ other closed holds j member. raised.least other closed (λ k h. base other closed holds k h) j member;
}
  where
    new : Contains (slice_set picks i q) q
    new = contains_at (slice_set picks i q) i q (slice_get-set_same picks i q (slice_get_within picks i p at))

    all : (j pick : ℕ) → Before trace j pick → (k : ℕ) × (slice_get (slice_set picks i q) k ≡ Some pick) → IsTrue (more j)
    all j pick before found = go (cases_eq found.0 i)
      where
        go : (found.0 ≡ i) ⊎ (found.0 ≢ i) → IsTrue (more j)
        go (inl same) =
            let now : slice_get (slice_set picks i q) i ≡ Some q = slice_get-set_same picks i q (slice_get_within picks i p at) in
            let there : slice_get (slice_set picks i q) i ≡ Some pick = subst (λ (m : ℕ). slice_get (slice_set picks i q) m ≡ Some pick) same found.1 in
            let is : pick ≡ q = cc in
            raised.all j (inr (subst (Before trace j) is before))
        go (inr other) = raised.all j (inl (old.all j (record { pick = pick; is_pick = contains_at picks found.0 pick (sym (slice_get-set_other picks i found.0 q other) ∙ found.1); before = before })))

    base : (other : ℕ → Bool) → ClosedSet trace other → ((j : ℕ) → BeforeAny trace (slice_set picks i q) j → IsTrue (other j)) → (j : ℕ) → IsTrue (set j) ⊎ Before trace j q → IsTrue (other j)
    base other closed holds j (inr before) = holds j (record { pick = q; is_pick = new; before = before })
    base other closed holds j (inl member) = old.least other closed (λ k h. place k h.pick h.before (index_of picks h.pick h.is_pick)) j member
      where
        place : (k pick : ℕ) → Before trace k pick → (m : ℕ) × (slice_get picks m ≡ Some pick) → IsTrue (other k)
        place k pick before found = go (cases_eq found.0 i)
          where
            go : (found.0 ≡ i) ⊎ (found.0 ≢ i) → IsTrue (other k)
            go (inl same) =
                let there : slice_get picks i ≡ Some pick = subst (λ (m : ℕ). slice_get picks m ≡ Some pick) same found.1 in
                let own = at in
                let is : pick ≡ p = cc in
                closed.program k p (subst (Before trace k) is before) (holds p (record { pick = q; is_pick = new; before = later }))
            go (inr differs) = holds k (record { pick = pick; is_pick = contains_at (slice_set picks i q) found.0 pick (slice_get-set_other picks i found.0 q differs ∙ found.1); before = before })
