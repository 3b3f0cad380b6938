-- Sets by cuts as flags.
use Rattle.std.proofs.Common.{◌≡◌, ℕ, zero, suc, ◌+◌, ◌<◌, Bool, true, false, List, [], ◌∷◌, Option, Some, None, refl, sym, ap, subst, ◌∙◌, arith}
use Rattle.std.specs.Prelude.{IsTrue, nat_lt, slice_get, slice_index, unwrap_or}
use Rattle.std.proofs.lemmas.Bool.Decides.{nat_tests}
use Rattle.trace_laws.specs.Event.{Event}
use Rattle.trace_laws.proofs.Places.{mapped_from, thread_from_event, false_unless}
use Rattle.closed_fronts.specs.Members.{has, IsEmpty}
use Rattle.closed_fronts.specs.Cuts.{IsHeld, flags_from, flags_of}

-- what a test of numbers says
pub less_from_test : (a b : ℕ) → nat_lt a b ≡ true → a < b
less_from_test a b h = grind (arith, nat_tests)

-- and conversely
pub test_from_less : (a b : ℕ) → a < b → nat_lt a b ≡ true
test_from_less a b h = grind (arith, nat_tests)

-- the flag of an event
flag_at : (events : List Event) (i k : ℕ) (cuts : List ℕ) (e : Event) → slice_get events k ≡ Some e → slice_get (flags_from i events cuts) k ≡ Some (nat_lt (i + k) (slice_index cuts e.thread))
flag_at [] i k cuts e at = cc
flag_at (x ∷ events) i zero cuts e at =
    let same : x ≡ e = cc in
    let here : i ≡ i + 0 = omega arith in
    subst (λ (y : Event). Some (nat_lt i (slice_index cuts x.thread)) ≡ Some (nat_lt (i + 0) (slice_index cuts y.thread))) same (ap (λ (n : ℕ). Some (nat_lt n (slice_index cuts x.thread))) here)
flag_at (x ∷ events) i (suc k) cuts e at =
    let there : i + 1 + k ≡ i + suc k = omega arith in
    flag_at events (i + 1) k cuts e at ∙ ap (λ (n : ℕ). Some (nat_lt n (slice_index cuts e.thread))) there

-- there is no flag behind the events
flag_none : (events : List Event) (i k : ℕ) (cuts : List ℕ) → slice_get events k ≡ None → slice_get (flags_from i events cuts) k ≡ None
flag_none [] i k cuts at = refl
flag_none (x ∷ events) i zero cuts at = cc
flag_none (x ∷ events) i (suc k) cuts at = flag_none events (i + 1) k cuts at

-- an event is in the set where its place is below the cut of its thread
pub has_event : (events : List Event) (cuts : List ℕ) (i : ℕ) (e : Event) → slice_get events i ≡ Some e → has (flags_of events cuts) i ≡ nat_lt i (slice_index cuts e.thread)
unfolding flags_of
has_event events cuts i e at =
    let here : 0 + i ≡ i = omega arith in
    ap (λ (o : Option Bool). unwrap_or o false) (flag_at events 0 i cuts e at) ∙ ap (λ (n : ℕ). nat_lt n (slice_index cuts e.thread)) here

-- no place behind the events is in the set
has_none : (events : List Event) (cuts : List ℕ) (i : ℕ) → slice_get events i ≡ None → has (flags_of events cuts) i ≡ false
unfolding flags_of
has_none events cuts i at = ap (λ (o : Option Bool). unwrap_or o false) (flag_none events 0 i cuts at)

-- a flagged place is below the cut of its thread
pub held_from_has : (events : List Event) (cuts : List ℕ) (i : ℕ) → IsTrue (has (flags_of events cuts) i) → IsHeld events cuts i
held_from_has events cuts i h = go (slice_get events i) refl
  where
    go : (o : Option Event) → slice_get events i ≡ o → IsHeld events cuts i
    go None at = let out = has_none events cuts i at in absurd cc
    go (Some e) at = record { thread = e.thread; is_of = thread_from_event events i e at; below = less_from_test i (slice_index cuts e.thread) (sym (has_event events cuts i e at) ∙ h) }

-- and conversely
pub has_from_held : (events : List Event) (cuts : List ℕ) (i : ℕ) → IsHeld events cuts i → IsTrue (has (flags_of events cuts) i)
has_from_held events cuts i h =
    let found = mapped_from (λ (x : Event). x.thread) (slice_get events i) h.thread h.is_of in
    let below : i < slice_index cuts found.0.thread = subst (λ (t : ℕ). i < slice_index cuts t) (sym found.2) h.below in
    has_event events cuts i found.0 found.1 ∙ test_from_less i (slice_index cuts found.0.thread) below

-- where no place is below its cut, the set is empty
pub empty_flags : (events : List Event) (cuts : List ℕ) → ((t : ℕ) → slice_index cuts t ≡ 0) → IsEmpty (flags_of events cuts)
empty_flags events cuts none i = false_unless (has (flags_of events cuts) i) (λ h. let held = held_from_has events cuts i h in let below = held.below in let cut = none held.thread in omega arith)
