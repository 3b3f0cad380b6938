-- Where a set breaks the rule of releases, and how it is mended.
use Rattle.std.proofs.Common.{◌≡◌, ◌≢◌, ℕ, zero, suc, ◌+◌, ◌<◌, ◌≤◌, Bool, List, length, Option, Some, None, ◌⊎◌, inl, inr, refl, sym, subst, ◌∙◌, arith}
use Rattle.std.specs.Prelude.{◌↔◌, IsTrue, slice_get, slice_index}
use Rattle.std.proofs.lemmas.Option.{slice_get-get_or}
use Rattle.std.proofs.lemmas.Bool.{cases_eq}
use Rattle.trace_laws.specs.Event.{Event}
use Rattle.trace_laws.specs.declared.event.Op.{Op}
use Rattle.trace_laws.specs.declared.event.Op.TheVariants.{Acquire}
use Rattle.trace_laws.specs.Trace.{thread_at, op_at, Acquires, Lawful, LockLaw, Excludes, IsReleaseOf}
use Rattle.trace_laws.specs.Traces.{AreNamedBelow}
use Rattle.trace_laws.specs.Closed.{ClosedSet, HoldsAll}
use Rattle.trace_laws.proofs.Places.{three_way, event_of, mapped_from, within_from_thread}
use Rattle.closed_fronts.proofs.Releasing.{release_one}
use Rattle.closed_fronts.specs.Cuts.{IsHeld, Admits}
use Rattle.closed_fronts.specs.Tables.{IsNextRow, AreNextOf, IsOpen, IsOpened, IsOuter, IsAtMost}
use Rattle.closed_fronts.specs.Rows.{IsSteady, AreWithin, IsMended, IsBrokenAt, IsTorn, AreUnbroken, IsAcquireBelow}
use Rattle.closed_fronts.proofs.Told.{latest_at_most}
use Rattle.closed_fronts.proofs.Joins.{none_past}

-- no cut is beyond the trace
pub cut_within : (events : List Event) (threads : ℕ) (cuts : List ℕ) → IsSteady events threads cuts → (t : ℕ) → slice_index cuts t ≤ length events
cut_within events threads cuts steady t = go (slice_index cuts t) refl
  where
    go : (k : ℕ) → slice_index cuts t ≡ k → k ≤ length events
    go zero is = omega arith
    go (suc k) is = let less = within_from_thread events k t (steady.placed t k (is ∙ (omega arith))) in omega arith

-- where a place is held, it is below the cut of its thread
pub held_below : (events : List Event) (cuts : List ℕ) (t i : ℕ) → thread_at events i ≡ Some t → IsHeld events cuts i → i < slice_index cuts t
held_below events cuts t i own h = let other = h.is_of in let same : h.thread ≡ t = cc in subst (λ (k : ℕ). i < slice_index cuts k) same h.below

-- the thread of the release is that of its acquire
pub release_own : (events : List Event) (a r t : ℕ) → thread_at events a ≡ Some t → IsReleaseOf events a r → thread_at events r ≡ Some t
release_own events a r t own h = let x = h.acquires.thread in let y = h.releases.thread in cc

-- an acquire that ends outside the set, and that some acquire follows inside it, breaks the rule
pub broken_found : (events : List Event) (threads : ℕ) (cuts row : List ℕ) (a r cut : ℕ) → IsSteady events threads cuts → IsAcquireBelow events cuts a cut → IsNextRow events threads a row → IsReleaseOf events a r → cut ≤ r
    → (x : ℕ) × (slice_index row x < slice_index cuts x) → IsBrokenAt events cuts a r
broken_found events threads cuts row a r cut steady h next release past some = record {
  later = k;
  excludes = record { lock = h.lock; first = h.acquires.op; second = found.0.op; earlier = let after = found.1 in omega arith };
  release = release;
  first = record { thread = h.thread; is_of = h.acquires.thread; below = let is = h.is_cut in let below = h.below in omega arith };
  second = record { thread = x; is_of = found.0.thread; below = less };
  missing = λ held. let below = held_below events cuts h.thread r (release_own events a r h.thread h.acquires.thread release) held in let is = h.is_cut in omega arith;
}
  where
    x : ℕ
    x = some.0

    k : ℕ
    k = slice_index row x

    less : slice_index row x < slice_index cuts x
    less = some.1

    nexts : AreNextOf events threads h.lock (a + 1) row
    nexts = next h.lock h.acquires.op

    inside : x < length row
    inside = go (three_way x (length cuts))
      where
        go : (x < length cuts) ⊎ ((x ≡ length cuts) ⊎ (length cuts < x)) → x < length row
        go (inl under) = let s = steady.size in let z = nexts.size in omega arith
        go (inr (inl same)) = let none = none_past cuts x (omega arith) in let l = less in absurd (omega arith)
        go (inr (inr more)) = let none = none_past cuts x (omega arith) in let l = less in absurd (omega arith)

    at : slice_get row x ≡ Some (slice_index row x)
    at = slice_get-get_or row x 0 inside

    found : Acquires events (slice_index row x) x h.lock × (a + 1 ≤ slice_index row x)
    found = (nexts.each x (slice_index row x) at).found (let l = less in let w = cut_within events threads cuts steady x in omega arith)

-- an acquire without a release breaks nothing
pub unbroken_open : (events : List Event) (cuts : List ℕ) (a : ℕ) (o : Option ℕ) → ((r : ℕ) → (o ≡ Some r) ↔ IsReleaseOf events a r) → o ≡ None → (r : ℕ) → IsBrokenAt events cuts a r → ⊥
unbroken_open events cuts a o tells none r broken = let some = (tells r).1 broken.release in cc

-- nor does one that ends inside the set
pub unbroken_held : (events : List Event) (cuts : List ℕ) (a q cut : ℕ) → IsAcquireBelow events cuts a cut → IsReleaseOf events a q → q < cut → (r : ℕ) → IsBrokenAt events cuts a r → ⊥
unbroken_held events cuts a q cut h release under r broken =
    let same : q ≡ r = release_one events a q r release broken.release in
    let is = h.is_cut in
    broken.missing (record { thread = h.thread; is_of = release_own events a r h.thread h.acquires.thread broken.release; below = omega arith })

-- some acquire follows one that breaks the rule inside the set
pub broken_followed : (events : List Event) (threads : ℕ) (cuts row : List ℕ) (a cut : ℕ) → IsSteady events threads cuts → IsAcquireBelow events cuts a cut → IsNextRow events threads a row → (r : ℕ) → IsBrokenAt events cuts a r → (x : ℕ) × (slice_index row x < slice_index cuts x)
broken_followed events threads cuts row a cut steady h next r broken = (x, let f = first in let b = broken.second.below in omega arith)
  where
    x : ℕ
    x = broken.second.thread

    l : ℕ
    l = h.lock

    nexts : AreNextOf events threads h.lock (a + 1) row
    nexts = next h.lock h.acquires.op

    second : op_at events broken.later ≡ Some (Acquire h.lock)
    second = let p = broken.excludes.first in let q = broken.excludes.second in let own = h.acquires.op in cc

    inside : broken.second.thread < length row
    inside = go (three_way broken.second.thread (length cuts))
      where
        go : (broken.second.thread < length cuts) ⊎ ((broken.second.thread ≡ length cuts) ⊎ (length cuts < broken.second.thread)) → broken.second.thread < length row
        go (inl under) = let s = steady.size in let z = nexts.size in omega arith
        go (inr (inl same)) = let none = none_past cuts broken.second.thread (omega arith) in let b = broken.second.below in absurd (omega arith)
        go (inr (inr more)) = let none = none_past cuts broken.second.thread (omega arith) in let b = broken.second.below in absurd (omega arith)

    first : slice_index row broken.second.thread ≤ broken.later
    first = (nexts.each broken.second.thread (slice_index row broken.second.thread) (slice_get-get_or row broken.second.thread 0 inside)).first broken.later (record { thread = broken.second.is_of; op = second }) (let e = broken.excludes.earlier in omega arith)

-- a broken section is open at the cut of its thread
pub broken_is_open : (events : List Event) (cuts : List ℕ) (t a r : ℕ) → thread_at events a ≡ Some t → IsBrokenAt events cuts a r → IsOpen events t (slice_index cuts t) a
broken_is_open events cuts t a r own broken = record {
  lock = broken.release.lock;
  acquires = record { thread = own; op = broken.release.acquires.op };
  before = held_below events cuts t a own broken.first;
  open_on = λ q release. go q (release_one events a q r release broken.release) (three_way q (slice_index cuts t));
}
  where
    go : (q : ℕ) → q ≡ r → (q < slice_index cuts t) ⊎ ((q ≡ slice_index cuts t) ⊎ (slice_index cuts t < q)) → slice_index cuts t ≤ q
    go q same (inl less) = absurd (broken.missing (record { thread = t; is_of = release_own events a r t own broken.release; below = omega arith }))
    go q same (inr (inl equal)) = omega arith
    go q same (inr (inr more)) = omega arith

-- the open sections of a thread, from the latest on
module _ (events : List Event) (cuts : List ℕ) (t : ℕ) where
  -- what is known of the sections that are left
  abbrev Left : Option ℕ → Type 0
  Left o = (a r : ℕ) → thread_at events a ≡ Some t → IsBrokenAt events cuts a r → IsAtMost a o

  -- an open section is an acquire below the cut
  pub open_is_below : (n a : ℕ) → n ≤ slice_index cuts t → IsOpen events t n a → IsAcquireBelow events cuts a (slice_index cuts t)
  open_is_below n a le h = record { thread = t; lock = h.lock; acquires = h.acquires; is_cut = refl; below = let b = h.before in omega arith }

  -- at first all sections that are open at the cut are left
  pub left_first : (k : ℕ) (o : Option ℕ) → slice_index cuts t ≡ k + 1 → thread_at events k ≡ Some t → IsOpened events k o → Left o
  left_first k o is own opened a r mine broken = latest_at_most (IsOpen events t (k + 1)) o (opened t own) a (subst (λ (n : ℕ). IsOpen events t n a) is (broken_is_open events cuts t a r mine broken))

  -- where one is not broken, those that are open before it are left
  pub left_next : (b : ℕ) (o : Option ℕ) → thread_at events b ≡ Some t → b < slice_index cuts t → ((r : ℕ) → IsBrokenAt events cuts b r → ⊥) → Left (Some b) → IsOuter events b o → Left o
  left_next b o own below none left outer a r mine broken = go (cases_eq a b)
    where
      go : (a ≡ b) ⊎ (a ≢ b) → IsAtMost a o
      go (inl same) = absurd (none r (subst (λ (k : ℕ). IsBrokenAt events cuts k r) same broken))
      go (inr other) =
          let under = left a r mine broken in
          let section = broken_is_open events cuts t a r mine broken in
          latest_at_most (IsOpen events t b) o (outer t own) a (record { lock = section.lock; acquires = section.acquires; before = omega (arith, other, under); open_on = λ q release. let far = section.open_on q release in omega arith })

  -- where none is left, none is broken
  pub left_none : Left None → (a r : ℕ) → thread_at events a ≡ Some t → IsBrokenAt events cuts a r → ⊥
  left_none left a r mine broken = left a r mine broken

  -- a thread with nothing in the set breaks nothing
  pub unbroken_empty : slice_index cuts t ≡ 0 → (a r : ℕ) → thread_at events a ≡ Some t → IsBrokenAt events cuts a r → ⊥
  unbroken_empty none a r mine broken = let below = held_below events cuts t a mine broken.first in omega arith

-- where no section is broken, the set is closed under the rule of releases
pub mended_from : (events : List Event) (threads : ℕ) (cuts : List ℕ) → AreNamedBelow events threads → ((t a r : ℕ) → t < threads → thread_at events a ≡ Some t → IsBrokenAt events cuts a r → ⊥) → IsMended events cuts
mended_from events threads cuts named none a b r excludes release first second = go (three_way r (slice_index cuts release.thread))
  where
    known : release.thread < threads
    known =
        let found = mapped_from (λ (x : Event). x.thread) (slice_get events a) release.thread release.acquires.thread in
        let less = (named a found.0 found.1).0 in
        let same = found.2 in
        omega arith

    broken : slice_index cuts release.thread ≤ r → IsBrokenAt events cuts a r
    broken past = record {
      later = b;
      excludes = excludes;
      release = release;
      first = first;
      second = second;
      missing = λ held. let below = held_below events cuts release.thread r release.releases.thread held in omega arith;
    }

    go : (r < slice_index cuts release.thread) ⊎ ((r ≡ slice_index cuts release.thread) ⊎ (slice_index cuts release.thread < r)) → IsHeld events cuts r
    go (inl less) = record { thread = release.thread; is_of = release.releases.thread; below = less }
    go (inr (inl same)) = absurd (none release.thread a r known release.acquires.thread (broken (omega arith)))
    go (inr (inr more)) = absurd (none release.thread a r known release.acquires.thread (broken (omega arith)))

-- the same where the threads were searched from one on, and then from the first on
pub mended_around : (events : List Event) (threads start : ℕ) (cuts : List ℕ) → AreNamedBelow events threads → AreUnbroken events cuts start threads → AreUnbroken events cuts 0 start → IsMended events cuts
mended_around events threads start cuts named behind before = mended_from events threads cuts named (λ t a r less own broken. go t a r less own broken (three_way t start))
  where
    go : (t a r : ℕ) → t < threads → thread_at events a ≡ Some t → IsBrokenAt events cuts a r → (t < start) ⊎ ((t ≡ start) ⊎ (start < t)) → ⊥
    go t a r less own broken (inl under) = before t a r (omega arith) under own broken
    go t a r less own broken (inr (inl same)) = behind t a r (omega arith) less own broken
    go t a r less own broken (inr (inr more)) = behind t a r (omega arith) less own broken

-- the release of a torn section is the one that is missing
pub broken_release : (events : List Event) (cuts : List ℕ) (a q : ℕ) (o : Option ℕ) → IsTorn events cuts a → ((r : ℕ) → (o ≡ Some r) ↔ IsReleaseOf events a r) → o ≡ Some q → IsBrokenAt events cuts a q
broken_release events cuts a q o torn tells is = subst (λ (r : ℕ). IsBrokenAt events cuts a r) same torn.1
  where
    same : torn.0 ≡ q
    same = let found = (tells torn.0).1 torn.1.release in cc

-- a release that is missing is a place of the trace
pub broken_place : (events : List Event) (cuts : List ℕ) (a r : ℕ) → IsBrokenAt events cuts a r → r < length events
broken_place events cuts a r broken = within_from_thread events r broken.release.thread broken.release.releases.thread

-- in a lawful trace the section of an acquire ends before the lock is acquired again
pub release_before : (events : List Event) → Lawful events → (a b r : ℕ) → Excludes events a b → IsReleaseOf events a r → r < b
release_before events lawful a b r excludes release = go (three_way r b)
  where
    same_lock : release.lock ≡ excludes.lock
    same_lock = let x = release.acquires.op in let y = excludes.first in cc

    denied : b ≤ r → ⊥
    denied past =
        let found = event_of events b (Acquire excludes.lock) excludes.second in
        let law : LockLaw events ◌<◌ b found.0.thread (Acquire excludes.lock) = subst (λ (o : Op). LockLaw events ◌<◌ b found.0.thread o) found.2 (lawful b found.0 found.1).locks in
        law release.thread (record {
          since = a;
          acquired = record { thread = release.acquires.thread; op = excludes.first };
          before = excludes.earlier;
          kept = λ q releases after until. release.first q (record { thread = releases.thread; op = subst (λ (l : ℕ). op_at events q ≡ Some (Op.Release l)) (sym same_lock) releases.op }) after (omega arith);
        })

    go : (r < b) ⊎ ((r ≡ b) ⊎ (b < r)) → r < b
    go (inl less) = less
    go (inr (inl same)) = absurd (denied (omega arith))
    go (inr (inr more)) = absurd (denied (omega arith))

-- so a release that is missing stands before the rows' end
pub broken_within : (events : List Event) → Lawful events → (cuts : List ℕ) (n a r : ℕ) → AreWithin cuts (n + 1) → IsBrokenAt events cuts a r → r < n
broken_within events lawful cuts n a r within broken =
    let less = release_before events lawful a broken.later r broken.excludes broken.release in
    let below = broken.second.below in
    let bound = within broken.second.thread in
    omega arith

-- and is in each closed set that holds the set
pub broken_forced : (events : List Event) (cuts : List ℕ) (a r : ℕ) → IsBrokenAt events cuts a r → (other : ℕ → Bool) → ClosedSet events other → HoldsAll (IsHeld events cuts) other → HoldsAll (λ i. i ≡ r) other
broken_forced events cuts a r broken other closed all i same =
    subst (λ (k : ℕ). IsTrue (other k)) (sym same) (closed.releases a broken.later r broken.excludes broken.release (all a broken.first) (all broken.later broken.second))

-- admitting it lets a cut rise
pub broken_rises : (events : List Event) (old new : List ℕ) (a r : ℕ) → IsBrokenAt events old a r → IsHeld events new r → (t : ℕ) × (slice_index old t < slice_index new t)
broken_rises events old new a r broken held = (held.thread, go (three_way r (slice_index old held.thread)))
  where
    go : (r < slice_index old held.thread) ⊎ ((r ≡ slice_index old held.thread) ⊎ (slice_index old held.thread < r)) → slice_index old held.thread < slice_index new held.thread
    go (inl less) = absurd (broken.missing (record { thread = held.thread; is_of = held.is_of; below = less }))
    go (inr (inl same)) = let b = held.below in omega arith
    go (inr (inr more)) = let b = held.below in omega arith

-- sets that grow by admissions have no cut that falls, where each cut is just behind a place of its thread
pub admits_rise : (events : List Event) (threads : ℕ) (P : ℕ → Type 0) (a c : List ℕ) → IsSteady events threads a → Admits events P a c → (t : ℕ) → slice_index a t ≤ slice_index c t
admits_rise events threads P a c steady admits t = go (slice_index a t) refl
  where
    go : (k : ℕ) → slice_index a t ≡ k → k ≤ slice_index c t
    go zero is = omega arith
    go (suc k) is =
        let own = steady.placed t k (is ∙ (omega arith)) in
        let below = held_below events c t k own (admits.keeps k (record { thread = t; is_of = own; below = omega arith })) in
        omega arith
