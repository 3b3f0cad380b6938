-- Events that are added to a builder name only threads below a number.
use Rattle.std.proofs.Common.{◌≡◌, ℕ, ◌<◌, List, [], ◌∷◌, ◌++◌, length, Some, ◌⊎◌, inl, inr, sym, ap, subst, ◌∙◌, arith, length-append}
use Rattle.std.specs.Prelude.{slice_get, Result, Ok, Err, OnOk, OnErr}
use Rattle.std.proofs.lemmas.Option.{slice_get_within}
use Rattle.trace_laws.specs.Event.{Event}
use Rattle.trace_laws.specs.Faults.{Built}
use Rattle.trace_laws.specs.Traces.{AreNamedBelow, NamesBelow}
use Rattle.trace_laws.proofs.Places.{three_way, slice_get-append_left, slice_get-append_seam}

-- one event more whose threads are below the number
pub named_more : (events : List Event) (e : Event) (n : ℕ) → AreNamedBelow events n → e.thread < n → NamesBelow e.op n → AreNamedBelow (events ++ e ∷ []) n
named_more events e n named thread op i f at = go (three_way i (length events))
  where
    go : (i < length events) ⊎ ((i ≡ length events) ⊎ (length events < i)) → (f.thread < n) × NamesBelow f.op n
    go (inl less) = named i f (sym (slice_get-append_left events (e ∷ []) i less) ∙ at)
    go (inr (inl same)) =
        let seam : slice_get (events ++ e ∷ []) i ≡ Some e = ap (slice_get (events ++ e ∷ [])) same ∙ slice_get-append_seam events e in
        let is : e ≡ f = cc in
        subst (λ (x : Event). (x.thread < n) × NamesBelow x.op n) is (thread, op)
    go (inr (inr more)) = let within = slice_get_within (events ++ e ∷ []) i f at in absurd (omega (arith, length-append events (e ∷ [])))

-- what holds of an answer in both cases
pub either : {A E : Type 0} (r : Result A E) (P Q : Type 0) → OnOk r P → OnErr r Q → P ⊎ Q
either (Ok a) P Q p q = inl p
either (Err e) P Q p q = inr q

-- the builder's events after an event was accepted or refused
pub named_after : (old new : Built) (e : Event) (n : ℕ) → AreNamedBelow old.events n → AreNamedBelow (old.events ++ e ∷ []) n → (new.events ≡ old.events ++ e ∷ []) ⊎ (new ≡ old) → AreNamedBelow new.events n
named_after old new e n named more (inl is) = subst (λ (x : List Event). AreNamedBelow x n) (sym is) more
named_after old new e n named more (inr is) = subst (λ (b : Built). AreNamedBelow b.events n) (sym is) named
