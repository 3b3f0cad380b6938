-- Lemmas on lists of places and on events at places.
use Rattle.std.proofs.Common.{◌≡◌, ℕ, zero, suc, ◌<◌, Bool, true, false, List, [], ◌∷◌, ◌++◌, length, Option, Some, None, ◌⊎◌, inl, inr, refl, ap, ◌∙◌, arith}
use Rattle.std.specs.Prelude.{slice_get, Contains}
use Rattle.std.specs.Option.{option_map}
use Rattle.std.proofs.lemmas.Option.{slice_get_within, get_or_from_slice_get, slice_get-get_or}
use Rattle.trace_laws.specs.Event.{Event}
use Rattle.trace_laws.specs.declared.event.Op.{Op}
use Rattle.trace_laws.specs.declared.event.Op.TheVariants.{Read, Write, Join}
use Rattle.trace_laws.specs.Trace.{thread_at, op_at, Before}
use Rattle.trace_laws.specs.Reordering.{Earlier, AreDistinct, Accesses}
use Rattle.trace_laws.specs.Closed.{ListsInOrder}

-- an element stands at an index
pub index_of : {X : Type 0} (xs : List X) (x : X) → Contains xs x → (k : ℕ) × (slice_get xs k ≡ Some x)
index_of xs x h = (h.0, slice_get-get_or xs h.0 x h.1 ∙ ap Some h.2)

-- what stands at an index is an element
pub contains_at : {X : Type 0} (xs : List X) (k : ℕ) (x : X) → slice_get xs k ≡ Some x → Contains xs x
contains_at xs k x e = (k, slice_get_within xs k x e, get_or_from_slice_get xs k x x e)

-- an event's operation
pub op_from_event : (trace : List Event) (i : ℕ) (e : Event) → slice_get trace i ≡ Some e → op_at trace i ≡ Some e.op
op_from_event trace i e h = ap (option_map (λ (x : Event). x.op)) h

-- an event's thread
pub thread_from_event : (trace : List Event) (i : ℕ) (e : Event) → slice_get trace i ≡ Some e → thread_at trace i ≡ Some e.thread
thread_from_event trace i e h = ap (option_map (λ (x : Event). x.thread)) h

-- an option that maps to something is something
pub mapped_from : {A B : Type 0} (f : A → B) (o : Option A) (b : B) → option_map f o ≡ Some b → (a : A) × (o ≡ Some a) × (f a ≡ b)
mapped_from f None b h = cc
mapped_from f (Some a) b h = (a, refl, cc)

-- a place with an operation is within the trace
pub within_from_op : (trace : List Event) (i : ℕ) (o : Op) → op_at trace i ≡ Some o → i < length trace
within_from_op trace i o h = let found = mapped_from (λ (x : Event). x.op) (slice_get trace i) o h in slice_get_within trace i found.0 found.1

-- a place that comes before another is less
pub before_less : (trace : List Event) (i j : ℕ) → Before trace i j → i < j
before_less trace i j (Before.same_thread t h a b) = h
before_less trace i j (Before.fork_event t h a b) = h
before_less trace i j (Before.event_join t h a b) = h
before_less trace i j (Before.fork_join t h a b) = h

-- of two places of which one stands earlier, the earlier is in the list
pub first_contained : (places : List ℕ) (i j : ℕ) → Earlier places i j → Contains places i
first_contained places i j h = contains_at places h.first i h.at_first

-- and so is the later
pub second_contained : (places : List ℕ) (i j : ℕ) → Earlier places i j → Contains places j
second_contained places i j h = contains_at places h.second j h.at_second

-- less, equal or greater
pub three_way : (a b : ℕ) → (a < b) ⊎ ((a ≡ b) ⊎ (b < a))
three_way a b = grind arith

-- in the order of the trace, of two places that are listed the less stands earlier
pub earlier_in_order : (trace : List Event) (set : ℕ → Bool) (places : List ℕ) → ListsInOrder trace set places → (i j : ℕ) → Contains places i → Contains places j → i < j → Earlier places i j
earlier_in_order trace set places order i j ci cj less =
    let at_i = index_of places i ci in
    let at_j = index_of places j cj in
    go at_i.0 at_j.0 at_i.1 at_j.1 (three_way at_i.0 at_j.0)
  where
    go : (a b : ℕ) → slice_get places a ≡ Some i → slice_get places b ≡ Some j → (a < b) ⊎ ((a ≡ b) ⊎ (b < a)) → Earlier places i j
    go a b ea eb (inl h) = record { first = a; second = b; rises = h; at_first = ea; at_second = eb }
    go a b ea eb (inr (inl h)) = let same : i ≡ j = cc in absurd (omega arith)
    go a b ea eb (inr (inr h)) = let down : j < i = order.rises b a j i h eb ea in absurd (omega arith)

-- and the earlier is the less
pub less_from_earlier : (trace : List Event) (set : ℕ → Bool) (places : List ℕ) → ListsInOrder trace set places → (i j : ℕ) → Earlier places i j → i < j
less_from_earlier trace set places order i j h = order.rises h.first h.second i j h.rises h.at_first h.at_second

-- of two places of a list only one stands earlier
pub earlier_one_way : (places : List ℕ) → AreDistinct places → (i j : ℕ) → Earlier places i j → Earlier places j i → ⊥
earlier_one_way places distinct i j up down =
    let same_i : up.first ≡ down.second = distinct up.first down.second i up.at_first down.at_second in
    let same_j : up.second ≡ down.first = distinct up.second down.first j up.at_second down.at_first in
    omega arith

-- a test that cannot fail passes
pub true_unless : (b : Bool) → (b ≡ false → ⊥) → b ≡ true
true_unless true h = refl
true_unless false h = absurd (h refl)

-- a test that cannot pass fails
pub false_unless : (b : Bool) → (b ≡ true → ⊥) → b ≡ false
false_unless false h = refl
false_unless true h = absurd (h refl)

-- the first element is one
pub contains_head : {X : Type 0} (x : X) (xs : List X) → Contains (x ∷ xs) x
contains_head x xs = contains_at (x ∷ xs) zero x refl

-- an element of the rest is one
pub contains_tail : {X : Type 0} (y : X) (xs : List X) (x : X) → Contains xs x → Contains (y ∷ xs) x
contains_tail y xs x h = let at = index_of xs x h in contains_at (y ∷ xs) (suc at.0) x at.1

-- an element is the first or one of the rest
pub contains_cases : {X : Type 0} (y : X) (xs : List X) (x : X) → Contains (y ∷ xs) x → (y ≡ x) ⊎ Contains xs x
contains_cases {X} y xs x h = let at = index_of (y ∷ xs) x h in go at.0 at.1
  where
    go : (k : ℕ) → slice_get (y ∷ xs) k ≡ Some x → (y ≡ x) ⊎ Contains xs x
    go zero e = inl cc
    go (suc k) e = inr (contains_at xs k x e)

-- the empty list has no element
pub contains_none : {X : Type 0} (x : X) → Contains [] x → ⊥
contains_none {X} x h = let at = index_of [] x h in go at.0 at.1
  where
    go : (k : ℕ) → slice_get [] k ≡ Some x → ⊥
    go k e = cc

-- what stands at an index of the front
pub slice_get-append_left : {X : Type 0} (xs ys : List X) (k : ℕ) → k < length xs → slice_get (xs ++ ys) k ≡ slice_get xs k
slice_get-append_left [] ys k h = absurd (omega arith)
slice_get-append_left (x ∷ xs) ys zero h = refl
slice_get-append_left (x ∷ xs) ys (suc k) h = slice_get-append_left xs ys k (omega arith)

-- what stands just behind the front
pub slice_get-append_seam : {X : Type 0} (xs : List X) (y : X) → slice_get (xs ++ y ∷ []) (length xs) ≡ Some y
slice_get-append_seam [] y = refl
slice_get-append_seam (x ∷ xs) y = slice_get-append_seam xs y

-- the event at a place whose operation is known
pub event_of : (trace : List Event) (i : ℕ) (o : Op) → op_at trace i ≡ Some o → (e : Event) × (slice_get trace i ≡ Some e) × (e.op ≡ o)
event_of trace i o h = mapped_from (λ (x : Event). x.op) (slice_get trace i) o h

-- a place with a thread is within the trace
pub within_from_thread : (trace : List Event) (i t : ℕ) → thread_at trace i ≡ Some t → i < length trace
within_from_thread trace i t h = let found = mapped_from (λ (x : Event). x.thread) (slice_get trace i) t h in slice_get_within trace i found.0 found.1

-- a place that another comes before is of the trace
pub before_within : (trace : List Event) (i j : ℕ) → Before trace i j → j < length trace
before_within trace i j (Before.same_thread t h a b) = within_from_thread trace j t b
before_within trace i j (Before.fork_event t h a b) = within_from_thread trace j t b
before_within trace i j (Before.event_join t h a b) = within_from_op trace j (Join t) b
before_within trace i j (Before.fork_join t h a b) = within_from_op trace j (Join t) b

-- an access is a place of the trace
pub access_within : (trace : List Event) (e x : ℕ) → Accesses trace e x → e < length trace
access_within trace e x (inl h) = within_from_op trace e (Read x) h
access_within trace e x (inr h) = within_from_op trace e (Write x) h
