-- Closed sets are the sync-preserving correct reorderings.
use Rattle.std.proofs.Common.{◌≡◌, ℕ, zero, suc, ◌<◌, Bool, false, List, length, Option, Some, None, ◌⊎◌, inl, inr, refl, sym, ap, subst, ◌∙◌, arith}
use Rattle.std.specs.Prelude.{slice_get, Contains, IsTrue, ◌↔◌}
use Rattle.trace_laws.specs.Event.{Event}
use Rattle.trace_laws.specs.declared.event.Op.{Op}
use Rattle.trace_laws.specs.declared.event.Op.TheVariants.{Read, Write, Acquire, Release, Fork, Join}
use Rattle.trace_laws.specs.Trace.{Excludes, thread_at, op_at, Reads, Acquires, Releases, Before, Holds, IsWriter, LockLaw, Lawful, IsReleaseOf}
use Rattle.trace_laws.specs.Reordering.{Earlier, AreDistinct, CorrectReordering, SyncPreserving}
use Rattle.trace_laws.specs.Closed.{ClosedSet, ListsInOrder, ClosedSetsAreReorderings, ReorderingsAreClosed}
use Rattle.trace_laws.proofs.Places.{op_from_event, thread_from_event, before_less, first_contained, second_contained, three_way, earlier_in_order, less_from_earlier, mapped_from, earlier_one_way, true_unless}

-- a closed set, listed in the order of the trace
module _ (trace : List Event) (lawful : Lawful trace) (set : ℕ → Bool) (places : List ℕ) (closed : ClosedSet trace set) (order : ListsInOrder trace set places) where
  -- a member that is less stands earlier
  earlier_of : (i j : ℕ) → IsTrue (set i) → Contains places j → i < j → Earlier places i j
  earlier_of i j member cj less =
      let j_within : j < length trace = order.within j cj in
      earlier_in_order trace set places order i j (order.complete i (omega arith) member) cj less

  -- the list keeps program order
  keeps_program : (i j : ℕ) → Contains places j → Before trace i j → Earlier places i j
  keeps_program i j cj before = earlier_of i j (closed.program i j before (order.members j cj)) cj (before_less trace i j before)

  -- each read has along the list the writer that it has in the trace
  keeps_writers : (r x : ℕ) (w : Option ℕ) → Contains places r → Reads trace r x → IsWriter trace ◌<◌ r x w → IsWriter trace (Earlier places) r x w
  keeps_writers r x None cr reads writer = λ v writes earlier. writer v writes (less_from_earlier trace set places order v r earlier)
  keeps_writers r x (Some w) cr reads writer = record {
    writes = writer.writes;
    before = earlier_of w r (closed.writers r x w reads writer (order.members r cr)) cr writer.before;
    last = λ v writes after until. writer.last v writes (less_from_earlier trace set places order w v after) (less_from_earlier trace set places order v r until);
  }

  -- a thread that holds the released lock in the trace holds it along the list
  keeps_release : (j t l : ℕ) → Contains places j → thread_at trace j ≡ Some t → Holds trace ◌<◌ j t l → Holds trace (Earlier places) j t l
  keeps_release j t l cj own held =
      let before : Before trace held.since j = Before.same_thread t held.before held.acquired.thread own in
      record {
        since = held.since;
        acquired = held.acquired;
        before = keeps_program held.since j cj before;
        kept = λ r releases after until. held.kept r releases (less_from_earlier trace set places order held.since r after) (less_from_earlier trace set places order r j until);
      }

  -- an acquire that is held along the list has no release in the trace before a later acquire of the list
  no_release : (j l u : ℕ) → Contains places j → op_at trace j ≡ Some (Acquire l) → (held : Holds trace (Earlier places) j u l) → (n r : ℕ) → r < n → Releases trace r u l → held.since < r → r < j → ⊥
  no_release j l u cj acquires held zero r below releases after until = absurd (omega arith)
  no_release j l u cj acquires held (suc n) r below releases after until =
      let first : (q : ℕ) → Releases trace q u l → held.since < q → q < r → ⊥ = λ q q_releases q_after q_until. no_release j l u cj acquires held n q (omega arith) q_releases q_after (omega arith) in
      let release : IsReleaseOf trace held.since r = record { thread = u; lock = l; acquires = held.acquired; releases = releases; later = after; first = first } in
      let since_in : IsTrue (set held.since) = order.members held.since (first_contained places held.since j held.before) in
      let r_in : IsTrue (set r) = closed.releases held.since j r (record { lock = l; first = held.acquired.op; second = acquires; earlier = omega arith }) release since_in (order.members j cj) in
      let r_until : Earlier places r j = earlier_of r j r_in cj until in
      held.kept r releases (earlier_of held.since r since_in (first_contained places r j r_until) after) r_until

  -- the lock law of the trace at a place of the list
  law_in_trace : (j : ℕ) (e : Event) (o : Op) → slice_get trace j ≡ Some e → e.op ≡ o → LockLaw trace ◌<◌ j e.thread o
  law_in_trace j e o is_e is_o = subst (λ (x : Op). LockLaw trace ◌<◌ j e.thread x) is_o (lawful j e is_e).locks

  -- nobody holds along the list the lock that an acquire takes
  keeps_acquire : (j l : ℕ) (e : Event) → Contains places j → slice_get trace j ≡ Some e → e.op ≡ Acquire l → (u : ℕ) → Holds trace (Earlier places) j u l → ⊥
  keeps_acquire j l e cj is_e is_acquire u held =
      let acquires : op_at trace j ≡ Some (Acquire l) = op_from_event trace j e is_e ∙ ap Some is_acquire in
      law_in_trace j e (Acquire l) is_e is_acquire u (record {
        since = held.since;
        acquired = held.acquired;
        before = less_from_earlier trace set places order held.since j held.before;
        kept = λ r releases after until. no_release j l u cj acquires held (suc r) r (omega arith) releases after until;
      })

  -- the list keeps the law of locks
  keeps_locks : (j : ℕ) (e : Event) → Contains places j → slice_get trace j ≡ Some e → LockLaw trace (Earlier places) j e.thread e.op
  keeps_locks j e cj is_e = go e.op refl
    where
      go : (o : Op) → e.op ≡ o → LockLaw trace (Earlier places) j e.thread o
      go (Acquire l) is_o = keeps_acquire j l e cj is_e is_o
      go (Release l) is_o = keeps_release j e.thread l cj (thread_from_event trace j e is_e) (law_in_trace j e (Release l) is_e is_o)
      go (Read x) is_o = tt
      go (Write x) is_o = tt
      go (Fork u) is_o = tt
      go (Join u) is_o = tt

  -- no place stands twice in the list
  distinct : AreDistinct places
  distinct a b p at_a at_b = go (three_way a b)
    where
      go : (a < b) ⊎ ((a ≡ b) ⊎ (b < a)) → a ≡ b
      go (inl h) = let up : p < p = order.rises a b p p h at_a at_b in absurd (omega arith)
      go (inr (inl h)) = h
      go (inr (inr h)) = let up : p < p = order.rises b a p p h at_b at_a in absurd (omega arith)

  -- the list is a correct reordering
  is_correct : CorrectReordering trace places
  is_correct = record { within = order.within; distinct = distinct; program = keeps_program; locks = keeps_locks; writers = keeps_writers }

  -- acquires of one lock stand in the list in the order of the trace
  preserves_sync : SyncPreserving trace places
  preserves_sync a b both ca cb = earlier_of a b (order.members a ca) cb both.earlier

-- a closed set, listed in the order of the trace, is a sync-preserving correct reordering
pub closed_sets_are_reorderings_lem : (trace : List Event) → Lawful trace → ClosedSetsAreReorderings trace
closed_sets_are_reorderings_lem trace lawful set places closed order = (is_correct trace lawful set places closed order, preserves_sync trace lawful set places closed order)

-- what is a member of the list of a reordering whose places the test tells
module _ (trace : List Event) (places : List ℕ) (set : ℕ → Bool) (correct : CorrectReordering trace places) (preserving : SyncPreserving trace places) (tells : (i : ℕ) → IsTrue (set i) ↔ Contains places i) where
  -- what stands earlier in the list is a member
  member_from_first : (i j : ℕ) → Earlier places i j → IsTrue (set i)
  member_from_first i j earlier = (tells i).1 (first_contained places i j earlier)

  -- Where the release r of the acquire a were not in the list, a's thread would hold the lock at a later acquire b:
  -- no release of the lock by the thread stands in the list between them.
  no_release_along : (a b r : ℕ) → IsReleaseOf trace a r → Contains places a → set r ≡ false → (t l q : ℕ) → Acquires trace a t l → Releases trace r t l → ((p : ℕ) → Releases trace p t l → a < p → p < r → ⊥) → Releases trace q t l → Earlier places a q → ⊥
  no_release_along a b r release ca absent t l q acquires releases first q_releases after = at_a (three_way q a)
    where
      cq : Contains places q
      cq = second_contained places a q after

      r_missing : IsTrue (set r) → ⊥
      r_missing present = cc

      at_r : a < q → (q < r) ⊎ ((q ≡ r) ⊎ (r < q)) → ⊥
      at_r up (inl h) = first q q_releases up h
      at_r up (inr (inl h)) = r_missing (subst (λ (p : ℕ). IsTrue (set p)) h ((tells q).1 cq))
      at_r up (inr (inr h)) = r_missing (member_from_first r q (correct.program r q cq (Before.same_thread t h releases.thread q_releases.thread)))

      at_a : (q < a) ⊎ ((q ≡ a) ⊎ (a < q)) → ⊥
      at_a (inl h) = earlier_one_way places correct.distinct a q after (correct.program q a ca (Before.same_thread t h q_releases.thread acquires.thread))
      at_a (inr (inl h)) = earlier_one_way places correct.distinct a q after (subst (λ (p : ℕ). Earlier places p a) (sym h) (subst (λ (p : ℕ). Earlier places a p) h after))
      at_a (inr (inr h)) = at_r h (three_way q r)

  -- the release of an acquire is in the list where a later acquire of the lock is
  has_release : (a b r : ℕ) → Excludes trace a b → IsReleaseOf trace a r → Contains places a → Contains places b → set r ≡ false → ⊥
  has_release a b r both release ca cb absent =
      let l = both.lock in
      let at_a : op_at trace a ≡ Some (Acquire l) = both.first in
      let found = mapped_from (λ (e : Event). e.op) (slice_get trace b) (Acquire l) both.second in
      let same_lock : l ≡ release.lock = cc (at_a, release.acquires.op) in
      let law : LockLaw trace (Earlier places) b found.0.thread (Acquire l) = subst (λ (o : Op). LockLaw trace (Earlier places) b found.0.thread o) found.2 (correct.locks b found.0 cb found.1) in
      let law_here : LockLaw trace (Earlier places) b found.0.thread (Acquire release.lock) = subst (λ (k : ℕ). LockLaw trace (Earlier places) b found.0.thread (Acquire k)) same_lock law in
      law_here release.thread (record {
        since = a;
        acquired = release.acquires;
        before = preserving a b both ca cb;
        kept = λ q q_releases after until. no_release_along a b r release ca absent release.thread release.lock q release.acquires release.releases release.first q_releases after;
      })

  -- the members are a closed set
  is_closed : ClosedSet trace set
  is_closed = record {
    program = λ i j before member. member_from_first i j (correct.program i j ((tells j).0 member) before);
    writers = λ r x w reads last member. member_from_first w r (correct.writers r x (Some w) ((tells r).0 member) reads last).before;
    releases = λ a b r both release in_a in_b. true_unless (set r) (has_release a b r both release ((tells a).0 in_a) ((tells b).0 in_b));
  }

-- the places of a sync-preserving correct reordering are a closed set
pub reorderings_are_closed_lem : (trace : List Event) → ReorderingsAreClosed trace
reorderings_are_closed_lem trace places set correct preserving tells = is_closed trace places set correct preserving tells
