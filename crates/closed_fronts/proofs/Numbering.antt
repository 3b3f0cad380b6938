-- Numbering places within their threads.
use Rattle.std.proofs.Common.{◌≡◌, ◌≢◌, ℕ, ◌+◌, ◌<◌, ◌≤◌, Bool, true, false, List, length, take, Some, ◌⊎◌, inl, inr, refl, sym, ap, subst, ◌∙◌, arith, length-take}
use Rattle.std.specs.Prelude.{slice_get, slice_set, ◌==◌}
use Rattle.std.proofs.Math.ListN.{length-set}
use Rattle.std.proofs.lemmas.Bool.{cases_eq}
use Rattle.std.proofs.lemmas.Bool.Decides.{eqb_tells}
use Rattle.std.proofs.lemmas.List.Sums.{count_by-le-length, count_by_more_yes, count_by_more_no}
use Rattle.std.proofs.lemmas.Option.{slice_get_within, get_or_from_slice_get}
use Rattle.trace_laws.specs.Event.{Event}
use Rattle.trace_laws.specs.Kept.{count_of, local_of}
use Rattle.trace_laws.proofs.Growing.{slice_get-set_same, slice_get-set_other}
use Rattle.closed_fronts.specs.Numbers.{AreNumbered}

-- whether an event is of a thread
abbrev is_of : ℕ → Event → Bool
is_of t e = e.thread == t

-- the test passes for equal numbers
equal_passes : (a b : ℕ) → a ≡ b → (a == b) ≡ true
equal_passes a b same = go (a == b) (eqb_tells a b)
  where
    go : (t : Bool) → ((t ≡ true) × (a ≡ b)) ⊎ ((t ≡ false) × (a ≢ b)) → t ≡ true
    go t (inl h) = h.0
    go t (inr h) = absurd (h.1 same)

-- and fails for others
other_fails : (a b : ℕ) → a ≢ b → (a == b) ≡ false
other_fails a b other = go (a == b) (eqb_tells a b)
  where
    go : (t : Bool) → ((t ≡ true) × (a ≡ b)) ⊎ ((t ≡ false) × (a ≢ b)) → t ≡ false
    go t (inl h) = absurd (other h.1)
    go t (inr h) = h.0

-- one place more of its thread
pub count_own : (events : List Event) (n t : ℕ) (e : Event) → slice_get events n ≡ Some e → e.thread ≡ t → count_of events t (n + 1) ≡ count_of events t n + 1
count_own events n t e at own = count_by_more_yes (is_of t) events n e (slice_get_within events n e at) (ap (is_of t) (get_or_from_slice_get events n e e at) ∙ equal_passes e.thread t own)

-- and none more of another
pub count_other : (events : List Event) (n t : ℕ) (e : Event) → slice_get events n ≡ Some e → e.thread ≢ t → count_of events t (n + 1) ≡ count_of events t n
count_other events n t e at other = count_by_more_no (is_of t) events n e (slice_get_within events n e at) (ap (is_of t) (get_or_from_slice_get events n e e at) ∙ other_fails e.thread t other)

-- a thread has at most all events
pub count_within : (events : List Event) (t n : ℕ) → count_of events t n ≤ length events
count_within events t n = let few = count_by-le-length (is_of t) (take n events) in let size = length-take n events in omega arith

-- the number of the place of an event
pub local_here : (events : List Event) (n : ℕ) (e : Event) → slice_get events n ≡ Some e → local_of events n ≡ count_of events e.thread n
local_here events n e at = rw at refl

-- the next place is numbered
pub numbered_next : (events : List Event) (n t k : ℕ) (e : Event) (counts numbers : List ℕ) → slice_get events n ≡ Some e → e.thread ≡ t → slice_get counts t ≡ Some k → AreNumbered events n counts numbers → AreNumbered events (n + 1) (slice_set counts t (k + 1)) (slice_set numbers n k)
numbered_next events n t k e counts numbers at own read old = record {
  threads = length-set counts t (k + 1) ∙ old.threads;
  places = length-set numbers n k ∙ old.places;
  counted = λ u m get. count u m get (cases_eq u t);
  numbered = λ p m less get. number p m less get (cases_eq p n);
}
  where
    known : k ≡ count_of events t n
    known = old.counted t k read

    count : (u m : ℕ) → slice_get (slice_set counts t (k + 1)) u ≡ Some m → (u ≡ t) ⊎ (u ≢ t) → m ≡ count_of events u (n + 1)
    count u m get (inl same) =
        let now : slice_get (slice_set counts t (k + 1)) t ≡ Some (k + 1) = slice_get-set_same counts t (k + 1) (slice_get_within counts t k read) in
        let there : slice_get (slice_set counts t (k + 1)) t ≡ Some m = subst (λ (v : ℕ). slice_get (slice_set counts t (k + 1)) v ≡ Some m) same get in
        let is : m ≡ k + 1 = cc in
        let more = count_own events n t e at own in
        let before = known in
        let all : m ≡ count_of events t (n + 1) = omega arith in
        subst (λ (v : ℕ). m ≡ count_of events v (n + 1)) (sym same) all
    count u m get (inr other) =
        let there : slice_get counts u ≡ Some m = sym (slice_get-set_other counts t u (k + 1) other) ∙ get in
        old.counted u m there ∙ sym (count_other events n u e at (λ same. other (sym same ∙ own)))

    number : (p m : ℕ) → p < n + 1 → slice_get (slice_set numbers n k) p ≡ Some m → (p ≡ n) ⊎ (p ≢ n) → m ≡ local_of events p
    number p m less get (inl same) =
        let within : n < length numbers = (let all = slice_get_within events n e at in let size = old.places in omega arith) in
        let now : slice_get (slice_set numbers n k) n ≡ Some k = slice_get-set_same numbers n k within in
        let there : slice_get (slice_set numbers n k) n ≡ Some m = subst (λ (v : ℕ). slice_get (slice_set numbers n k) v ≡ Some m) same get in
        let is : m ≡ k = cc in
        let here : local_of events n ≡ count_of events t n = local_here events n e at ∙ ap (λ (v : ℕ). count_of events v n) own in
        subst (λ (v : ℕ). m ≡ local_of events v) (sym same) (is ∙ known ∙ sym here)
    number p m less get (inr other) = old.numbered p m (omega (arith, other)) (sym (slice_get-set_other numbers n p k other) ∙ get)
