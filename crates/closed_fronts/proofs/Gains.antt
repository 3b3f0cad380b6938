-- Sets that gain places with what these need.
use Rattle.std.proofs.Common.{◌≡◌, ◌≢◌, ℕ, ◌+◌, ◌<◌, ◌≤◌, Bool, List, length, Option, Some, None, ◌⊎◌, inl, inr, refl, sym, ap, subst, ◌∙◌, arith, get_or-set_same, get_or-set_other}
use Rattle.std.specs.Prelude.{IsTrue, slice_set, slice_index}
use Rattle.std.proofs.Math.ListN.{length-set}
use Rattle.std.proofs.lemmas.Bool.{cases_eq}
use Rattle.trace_laws.specs.Event.{Event}
use Rattle.trace_laws.specs.declared.event.Op.{Op}
use Rattle.trace_laws.specs.declared.event.Op.TheVariants.{Acquire, Fork}
use Rattle.trace_laws.specs.Trace.{thread_at, op_at, Before, Reads, IsLastWrite, Lawful, ThreadLaw, Excludes, IsReleaseOf}
use Rattle.trace_laws.specs.Closed.{ClosedSet, HoldsAll, IsClosure}
use Rattle.trace_laws.proofs.Places.{three_way, event_of}
use Rattle.closed_fronts.specs.Members.{has}
use Rattle.closed_fronts.specs.Cuts.{IsHeld, Admits, flags_of}
use Rattle.closed_fronts.specs.Needs.{IsThreadBefore, IsWriterOfRead}
use Rattle.closed_fronts.specs.Tables.{IsLatest, IsOwnBefore, IsJoinBefore}
use Rattle.closed_fronts.proofs.Flags.{held_from_has, has_from_held}
use Rattle.closed_fronts.proofs.Admissions.{closure_after}
use Rattle.closed_fronts.specs.Rows.{AreZero, IsImplied, IsSteady, AreWithin, IsMended, IsReady, IsRow}

-- of places that are of a thread or fork it, the lesser comes before the greater
pub tip_order : (events : List Event) → Lawful events → (t n i q : ℕ) → IsThreadBefore events t n i → IsThreadBefore events t n q → i ≤ q → (i ≡ q) ⊎ Before events i q
tip_order events lawful t n i q h k le = go (three_way i q)
  where
    denied : i < q → op_at events q ≡ Some (Fork t) → (thread_at events i ≡ Some t) ⊎ (op_at events i ≡ Some (Fork t)) → ⊥
    denied less fork side =
        let found = event_of events q (Fork t) fork in
        let law : ThreadLaw events q found.0.thread (Fork t) = subst (λ (o : Op). ThreadLaw events q found.0.thread o) found.2 (lawful q found.0 found.1).threads in
        split law side
      where
        split : ThreadLaw events q (event_of events q (Fork t) fork).0.thread (Fork t) → (thread_at events i ≡ Some t) ⊎ (op_at events i ≡ Some (Fork t)) → ⊥
        split law (inl own) = law.3 (i, less, own)
        split law (inr again) = law.2 (i, less, again)

    both : i < q → (thread_at events i ≡ Some t) ⊎ (op_at events i ≡ Some (Fork t)) → (thread_at events q ≡ Some t) ⊎ (op_at events q ≡ Some (Fork t)) → Before events i q
    both less (inl a) (inl b) = Before.same_thread t less a b
    both less (inr a) (inl b) = Before.fork_event t less a b
    both less side (inr b) = absurd (denied less b side)

    go : (i < q) ⊎ ((i ≡ q) ⊎ (q < i)) → (i ≡ q) ⊎ Before events i q
    go (inl less) = inr (both less h.side k.side)
    go (inr (inl same)) = inl same
    go (inr (inr more)) = absurd (omega arith)

-- what comes before a place comes by its thread, or by the thread that it joins
before_by : (events : List Event) (place i : ℕ) → Before events i place → IsOwnBefore events place i ⊎ IsJoinBefore events place i
before_by events place i (Before.same_thread t less a b) = inl (record { thread = t; is_of = b; before = record { earlier = less; side = inl a } })
before_by events place i (Before.fork_event t less a b) = inl (record { thread = t; is_of = b; before = record { earlier = less; side = inr a } })
before_by events place i (Before.event_join t less a b) = inr (record { thread = t; joins = b; before = record { earlier = less; side = inl a } })
before_by events place i (Before.fork_join t less a b) = inr (record { thread = t; joins = b; before = record { earlier = less; side = inr a } })

-- and conversely
pub own_before : (events : List Event) (place i : ℕ) → IsOwnBefore events place i → Before events i place
own_before events place i h = go h.before.side
  where
    go : (thread_at events i ≡ Some h.thread) ⊎ (op_at events i ≡ Some (Fork h.thread)) → Before events i place
    go (inl a) = Before.same_thread h.thread h.before.earlier a h.is_of
    go (inr a) = Before.fork_event h.thread h.before.earlier a h.is_of

-- the same of the thread that it joins
pub join_before : (events : List Event) (place i : ℕ) → IsJoinBefore events place i → Before events i place
join_before events place i h = go h.before.side
  where
    go : (thread_at events i ≡ Some h.thread) ⊎ (op_at events i ≡ Some (Fork h.thread)) → Before events i place
    go (inl a) = Before.event_join h.thread h.before.earlier a h.joins
    go (inr a) = Before.fork_join h.thread h.before.earlier a h.joins

-- a steady set that holds the latest of them holds all
module _ (events : List Event) (lawful : Lawful events) (threads place : ℕ) (cuts : List ℕ) (steady : IsSteady events threads cuts) where
  -- by its own thread
  all_own : (o : Option ℕ) → IsLatest (IsOwnBefore events place) o → ((q : ℕ) → o ≡ Some q → IsHeld events cuts q) → (i : ℕ) → IsOwnBefore events place i → IsHeld events cuts i
  all_own None none held i h = absurd (none i h)
  all_own (Some q) latest held i h = go (tip_order events lawful h.thread place i q h.before own (latest.1 i h))
    where
      own : IsThreadBefore events h.thread place q
      own = let x = h.is_of in let y = latest.0.is_of in let same : latest.0.thread ≡ h.thread = cc in subst (λ (t : ℕ). IsThreadBefore events t place q) same latest.0.before

      go : (i ≡ q) ⊎ Before events i q → IsHeld events cuts i
      go (inl same) = subst (λ (k : ℕ). IsHeld events cuts k) (sym same) (held q refl)
      go (inr before) = steady.program i q before (held q refl)

  -- by the thread that it joins
  all_joined : (o : Option ℕ) → IsLatest (IsJoinBefore events place) o → ((q : ℕ) → o ≡ Some q → IsHeld events cuts q) → (i : ℕ) → IsJoinBefore events place i → IsHeld events cuts i
  all_joined None none held i h = absurd (none i h)
  all_joined (Some q) latest held i h = go (tip_order events lawful h.thread place i q h.before own (latest.1 i h))
    where
      own : IsThreadBefore events h.thread place q
      own = let x = h.joins in let y = latest.0.joins in let same : latest.0.thread ≡ h.thread = cc in subst (λ (t : ℕ). IsThreadBefore events t place q) same latest.0.before

      go : (i ≡ q) ⊎ Before events i q → IsHeld events cuts i
      go (inl same) = subst (λ (k : ℕ). IsHeld events cuts k) (sym same) (held q refl)
      go (inr before) = steady.program i q before (held q refl)

-- a steady set that holds these, and the writer of the place, is ready for it
pub ready_from : (events : List Event) → Lawful events → (threads place : ℕ) (cuts : List ℕ) → IsSteady events threads cuts → (own joined writer : Option ℕ) → IsLatest (IsOwnBefore events place) own → IsLatest (IsJoinBefore events place) joined
    → ((w : ℕ) → IsWriterOfRead events place w → writer ≡ Some w) → ((q : ℕ) → own ≡ Some q → IsHeld events cuts q) → ((q : ℕ) → joined ≡ Some q → IsHeld events cuts q) → ((q : ℕ) → writer ≡ Some q → IsHeld events cuts q) → IsReady events cuts place
ready_from events lawful threads place cuts steady own joined writer latest_own latest_joined tells has_own has_joined has_writer = record {
  before = λ i b. go i (before_by events place i b);
  writer = λ w is. has_writer w (tells w is);
}
  where
    go : (i : ℕ) → IsOwnBefore events place i ⊎ IsJoinBefore events place i → IsHeld events cuts i
    go i (inl h) = all_own events lawful threads place cuts steady own latest_own has_own i h
    go i (inr h) = all_joined events lawful threads place cuts steady joined latest_joined has_joined i h

-- where the latest place of the own and that of the joined thread are admitted, all places before the place are
pub admits_before : (events : List Event) → Lawful events → (threads place : ℕ) (own joined : Option ℕ) (a b c : List ℕ) → IsLatest (IsOwnBefore events place) own → IsLatest (IsJoinBefore events place) joined → IsSteady events threads c
    → Admits events (λ i. own ≡ Some i) a b → Admits events (λ i. joined ≡ Some i) b c → Admits events (λ i. Before events i place) a c
admits_before events lawful threads place own joined a b c latest_own latest_joined steady first second = record {
  size = second.size ∙ first.size;
  keeps = λ i h. second.keeps i (first.keeps i h);
  holds = λ i before. holds i (before_by events place i before);
  least = λ other closed all before. second.least other closed (first.least other closed all (λ q is. before q (own_before events place q (own_has q is)))) (λ q is. before q (join_before events place q (joined_has q is)));
}
  where
    own_has : (q : ℕ) → own ≡ Some q → IsOwnBefore events place q
    own_has q is = latest_has_here (IsOwnBefore events place) own q latest_own is
      where
        latest_has_here : (P : ℕ → Type 0) (o : Option ℕ) (b : ℕ) → IsLatest P o → o ≡ Some b → P b
        latest_has_here P None b latest is = cc
        latest_has_here P (Some a) b latest is = let same : a ≡ b = cc in subst P same latest.0

    joined_has : (q : ℕ) → joined ≡ Some q → IsJoinBefore events place q
    joined_has q is = latest_has_there (IsJoinBefore events place) joined q latest_joined is
      where
        latest_has_there : (P : ℕ → Type 0) (o : Option ℕ) (b : ℕ) → IsLatest P o → o ≡ Some b → P b
        latest_has_there P None b latest is = cc
        latest_has_there P (Some a) b latest is = let same : a ≡ b = cc in subst P same latest.0

    holds : (i : ℕ) → IsOwnBefore events place i ⊎ IsJoinBefore events place i → IsHeld events c i
    holds i (inl h) = all_own events lawful threads place c steady own latest_own (λ q is. second.keeps q (first.holds q is)) i h
    holds i (inr h) = all_joined events lawful threads place c steady joined latest_joined (λ q is. second.holds q is) i h

-- a place that comes into a set that has what it needs
module _ (events : List Event) (threads p t : ℕ) (cuts : List ℕ) (own : thread_at events p ≡ Some t) (steady : IsSteady events threads cuts) (within : AreWithin cuts (p + 1)) (inside : t < length cuts) (ready : IsReady events cuts p) where
  -- the raised cut
  here : slice_index (slice_set cuts t (p + 1)) t ≡ p + 1
  here = get_or-set_same cuts t (p + 1) 0 inside

  -- and the others
  there : (u : ℕ) → u ≢ t → slice_index (slice_set cuts t (p + 1)) u ≡ slice_index cuts u
  there u other = get_or-set_other cuts t u (p + 1) 0 other

  -- the old members stay
  pub stays : (i : ℕ) → IsHeld events cuts i → IsHeld events (slice_set cuts t (p + 1)) i
  stays i h = go (cases_eq h.thread t)
    where
      go : (h.thread ≡ t) ⊎ (h.thread ≢ t) → IsHeld events (slice_set cuts t (p + 1)) i
      go (inl same) = record { thread = t; is_of = h.is_of ∙ ap Some same; below = let b = h.below in let w = within h.thread in let x = here in omega arith }
      go (inr other) = record { thread = h.thread; is_of = h.is_of; below = let b = h.below in let x = there h.thread other in omega arith }

  -- the place is a member
  pub comes : IsHeld events (slice_set cuts t (p + 1)) p
  comes = record { thread = t; is_of = own; below = let x = here in omega arith }

  -- and there is no other new one
  pub only : (i : ℕ) → IsHeld events (slice_set cuts t (p + 1)) i → IsHeld events cuts i ⊎ (i ≡ p)
  only i h = go (cases_eq h.thread t)
    where
      split : thread_at events i ≡ Some t → i < p + 1 → (i < p) ⊎ ((i ≡ p) ⊎ (p < i)) → IsHeld events cuts i ⊎ (i ≡ p)
      split mine less (inl before) = inl (ready.before i (Before.same_thread t before mine own))
      split mine less (inr (inl same)) = inr same
      split mine less (inr (inr past)) = absurd (omega arith)

      go : (h.thread ≡ t) ⊎ (h.thread ≢ t) → IsHeld events cuts i ⊎ (i ≡ p)
      go (inl same) = split (h.is_of ∙ ap Some same) (let b : i < slice_index (slice_set cuts t (p + 1)) t = subst (λ (u : ℕ). i < slice_index (slice_set cuts t (p + 1)) u) same h.below in let x = here in omega arith) (three_way i p)
      go (inr other) = inl (record { thread = h.thread; is_of = h.is_of; below = let b = h.below in let x = there h.thread other in omega arith })

  -- the set stays steady
  pub steady_itself : IsSteady events threads (slice_set cuts t (p + 1))
  steady_itself = record {
    size = length-set cuts t (p + 1) ∙ steady.size;
    placed = λ u k is. placed u k is (cases_eq u t);
    program = λ i j before h. program i j before (only j h);
    writers = λ r x w reads last h. writers r x w reads last (only r h);
  }
    where
      placed : (u k : ℕ) → slice_index (slice_set cuts t (p + 1)) u ≡ k + 1 → (u ≡ t) ⊎ (u ≢ t) → thread_at events k ≡ Some u
      placed u k is (inl same) =
          let now : slice_index (slice_set cuts t (p + 1)) t ≡ k + 1 = subst (λ (v : ℕ). slice_index (slice_set cuts t (p + 1)) v ≡ k + 1) same is in
          let x = here in
          let equal : p ≡ k = omega arith in
          subst (λ (v : ℕ). thread_at events k ≡ Some v) (sym same) (subst (λ (v : ℕ). thread_at events v ≡ Some t) equal own)
      placed u k is (inr other) = steady.placed u k (sym (there u other) ∙ is)

      program : (i j : ℕ) → Before events i j → IsHeld events cuts j ⊎ (j ≡ p) → IsHeld events (slice_set cuts t (p + 1)) i
      program i j before (inl h) = stays i (steady.program i j before h)
      program i j before (inr same) = stays i (ready.before i (subst (λ (k : ℕ). Before events i k) same before))

      writers : (r x w : ℕ) → Reads events r x → IsLastWrite events ◌<◌ r x w → IsHeld events cuts r ⊎ (r ≡ p) → IsHeld events (slice_set cuts t (p + 1)) w
      writers r x w reads last (inl h) = stays w (steady.writers r x w reads last h)
      writers r x w reads last (inr same) = stays w (ready.writer w (subst (λ (k : ℕ). IsWriterOfRead events k w) same (record { var = x; reads = reads; last = last })))

  -- and within its bound
  pub within_itself : AreWithin (slice_set cuts t (p + 1)) (p + 1)
  within_itself u = go (cases_eq u t)
    where
      go : (u ≡ t) ⊎ (u ≢ t) → slice_index (slice_set cuts t (p + 1)) u ≤ p + 1
      go (inl same) = subst (λ (v : ℕ). slice_index (slice_set cuts t (p + 1)) v ≤ p + 1) (sym same) (let x = here in omega arith)
      go (inr other) = let x = there u other in let w = within u in omega arith

  -- the place is admitted
  pub admits_itself : Admits events (λ i. i ≡ p) cuts (slice_set cuts t (p + 1))
  admits_itself = record {
    size = length-set cuts t (p + 1);
    keeps = stays;
    holds = λ i same. subst (λ (k : ℕ). IsHeld events (slice_set cuts t (p + 1)) k) (sym same) comes;
    least = λ other closed all mine i h. least other all mine i (only i h);
  }
    where
      least : (other : ℕ → Bool) → HoldsAll (IsHeld events cuts) other → HoldsAll (λ i. i ≡ p) other → (i : ℕ) → IsHeld events cuts i ⊎ (i ≡ p) → IsTrue (other i)
      least other all mine i (inl h) = all i h
      least other all mine i (inr same) = mine i same

-- the empty set is steady
pub steady_empty : (events : List Event) (threads : ℕ) (cuts : List ℕ) → length cuts ≡ threads → ((t : ℕ) → slice_index cuts t ≡ 0) → IsSteady events threads cuts
steady_empty events threads cuts size none = record {
  size = size;
  placed = λ t k is. let zero_there = none t in absurd (omega arith);
  program = λ i j before h. absurd (let b = h.below in let z = none h.thread in omega arith);
  writers = λ r x w reads last h. absurd (let b = h.below in let z = none h.thread in omega arith);
}

-- and closed
pub mended_empty : (events : List Event) (cuts : List ℕ) → AreZero cuts → IsMended events cuts
mended_empty events cuts none a b r excludes release first second = absurd (let x = first.below in let z = none first.thread in omega arith)

-- a set that is ready after what the place needs was admitted
pub ready_after : (events : List Event) (place : ℕ) (a b c : List ℕ) → Admits events (λ i. Before events i place) a b → Admits events (IsWriterOfRead events place) b c → IsReady events c place
ready_after events place a b c first second = record { before = λ i before. second.keeps i (first.holds i before); writer = λ w is. second.holds w is }

-- the row of a place
pub row_made : (events : List Event) (threads place : ℕ) (a b c d e : List ℕ) → ((t : ℕ) → slice_index a t ≡ 0) → Admits events (λ i. Before events i place) a b → Admits events (IsWriterOfRead events place) b c
    → Admits events (λ i. i ≡ place) c d → Admits events (λ _. ⊥) d e → IsSteady events threads e → AreWithin e (place + 1) → IsMended events e → IsRow events threads place e
row_made events threads place a b c d e none first second third fourth steady within mended = record {
  steady = steady;
  within = within;
  mended = mended;
  holds = fourth.keeps place (third.holds place refl);
  least = λ other closed mine. fourth.least other closed (third.least other closed (second.least other closed (first.least other closed (empty other) (λ i before. closed.program i place before mine)) (λ w is. closed.writers place is.var w is.reads is.last mine)) (λ i same. subst (λ (k : ℕ). IsTrue (other k)) (sym same) mine)) (λ i p. absurd p);
}
  where
    empty : (other : ℕ → Bool) → HoldsAll (IsHeld events a) other
    empty other i h = absurd (let b = h.below in let z = none h.thread in omega arith)

-- a steady set that is mended is closed
pub closed_from : (events : List Event) (threads : ℕ) (cuts : List ℕ) → IsSteady events threads cuts → IsMended events cuts → ClosedSet events (has (flags_of events cuts))
closed_from events threads cuts steady mended = record {
  program = λ i j before h. has_from_held events cuts i (steady.program i j before (held_from_has events cuts j h));
  writers = λ r x w reads last h. has_from_held events cuts w (steady.writers r x w reads last (held_from_has events cuts r h));
  releases = λ a b r excludes release first second. has_from_held events cuts r (mended a b r excludes release (held_from_has events cuts a first) (held_from_has events cuts b second));
}

-- what is in the row of a place that leads to another is in each closed set that holds all before the other
pub implied_by_row : (events : List Event) (threads place q i : ℕ) (row : List ℕ) → IsOwnBefore events place q → IsRow events threads q row → IsHeld events row i → IsImplied events place i
implied_by_row events threads place q i row own of_row held = λ set closed all. of_row.least set closed (all q (own_before events place q own)) i held

-- the raised set is the closure
pub closure_raised : (events : List Event) (threads place : ℕ) (a b c : List ℕ) → Admits events (λ i. Before events i place) a b → Admits events (λ _. ⊥) b c → IsSteady events threads c → IsMended events c
    → IsClosure events (λ i. IsTrue (has (flags_of events a) i) ⊎ Before events i place) (has (flags_of events c))
closure_raised events threads place a b c first second steady mended = closure_after events (λ i. Before events i place) a b (has (flags_of events c)) first (record {
  closed = closed_from events threads c steady mended;
  all = λ i h. has_from_held events c i (second.keeps i h);
  least = λ other closed all i h. second.least other closed all (λ j p. absurd p) i (held_from_has events c i h);
})

-- A place that acquires and joins nothing, and whose writer, if it has one, is in the row of the latest place before it,
-- needs no mending: its row is that one with the own cut raised.
pub local_row : (events : List Event) → Lawful events → (threads p q t : ℕ) (row : List ℕ) → thread_at events p ≡ Some t → t < length row → IsLatest (IsOwnBefore events p) (Some q) → ((i : ℕ) → IsJoinBefore events p i → ⊥)
    → ((w : ℕ) → IsWriterOfRead events p w → IsHeld events row w) → ((l : ℕ) → op_at events p ≡ Some (Acquire l) → ⊥) → IsRow events threads q row → IsRow events threads p (slice_set row t (p + 1))
local_row events lawful threads p q t row own inside latest unjoined writer plain old = record {
  steady = steady_itself events threads p t row own old.steady within inside ready;
  within = within_itself events threads p t row own old.steady within inside ready;
  mended = λ a b r excludes release first second. mended a b r excludes release (only events threads p t row own old.steady within inside ready a first) (only events threads p t row own old.steady within inside ready b second);
  holds = comes events threads p t row own old.steady within inside ready;
  least = λ other closed mine. (admits_itself events threads p t row own old.steady within inside ready).least other closed (old.least other closed (closed.program q p (own_before events p q latest.0) mine)) (λ i same. subst (λ (k : ℕ). IsTrue (other k)) (sym same) mine);
}
  where
    all : (i : ℕ) → IsOwnBefore events p i → IsHeld events row i
    all i h = all_own events lawful threads p row old.steady (Some q) latest (λ x is. let same : q ≡ x = cc in subst (λ (k : ℕ). IsHeld events row k) same old.holds) i h

    before : (i : ℕ) → IsOwnBefore events p i ⊎ IsJoinBefore events p i → IsHeld events row i
    before i (inl h) = all i h
    before i (inr h) = absurd (unjoined i h)

    ready : IsReady events row p
    ready = record {
      before = λ i h. before i (before_by events p i h);
      writer = writer;
    }

    within : AreWithin row (p + 1)
    within u = let bound = old.within u in let less = latest.0.before.earlier in omega arith

    mended : (a b r : ℕ) → Excludes events a b → IsReleaseOf events a r → IsHeld events row a ⊎ (a ≡ p) → IsHeld events row b ⊎ (b ≡ p) → IsHeld events (slice_set row t (p + 1)) r
    mended a b r excludes release (inl first) (inl second) = stays events threads p t row own old.steady within inside ready r (old.mended a b r excludes release first second)
    mended a b r excludes release first (inr same) = absurd (plain excludes.lock (subst (λ (k : ℕ). op_at events k ≡ Some (Acquire excludes.lock)) same excludes.second))
    mended a b r excludes release (inr same) second = absurd (plain excludes.lock (subst (λ (k : ℕ). op_at events k ≡ Some (Acquire excludes.lock)) same excludes.first))
