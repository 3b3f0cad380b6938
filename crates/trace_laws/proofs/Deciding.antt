-- Program order, writers and releases can be decided.
use Rattle.std.proofs.Common.{◌≡◌, ℕ, zero, suc, ◌<◌, List, Option, Some, None, ◌⊎◌, inl, inr, refl, sym, ap, subst, arith}
use Rattle.std.proofs.Math.Decide.{dec_lt, map_dec, ℕ_discrete}
use Rattle.trace_laws.specs.Event.{Event}
use Rattle.trace_laws.specs.declared.event.Op.{Op}
use Rattle.trace_laws.specs.declared.event.Op.TheVariants.{Read, Write, Acquire, Release, Fork, Join}
use Rattle.trace_laws.specs.Trace.{thread_at, op_at, Writes, Releases, Before, IsLastWrite, IsReleaseOf}
use Rattle.trace_laws.proofs.Places.{three_way}

-- whether both of two facts hold
pub dec_and : {A B : Type 0} → Dec A → Dec B → Dec (A × B)
dec_and (yes a) (yes b) = yes (a, b)
dec_and (yes a) (no b) = no (λ h. b h.1)
dec_and (no a) b = no (λ h. a h.0)

-- whether one of two facts holds
pub dec_or : {A B : Type 0} → Dec A → Dec B → Dec (A ⊎ B)
dec_or (yes a) b = yes (inl a)
dec_or (no a) (yes b) = yes (inr b)
dec_or {A} {B} (no a) (no b) = no neither
  where
    neither : A ⊎ B → ⊥
    neither (inl h) = a h
    neither (inr h) = b h

-- whether a fact fails
pub dec_not : {A : Type 0} → Dec A → Dec (A → ⊥)
dec_not (yes a) = no (λ f. f a)
dec_not (no a) = yes a

-- whether some number below n has the property
pub dec_some : (n : ℕ) (P : ℕ → Type 0) → ((i : ℕ) → Dec (P i)) → Dec ((i : ℕ) × (i < n) × P i)
dec_some zero P d = no (λ h. let less : h.0 < 0 = h.1 in omega arith)
dec_some (suc n) P d = go (dec_some n P d) (d n)
  where
    go : Dec ((i : ℕ) × (i < n) × P i) → Dec (P n) → Dec ((i : ℕ) × (i < suc n) × P i)
    go (yes h) here = yes (h.0, (let less : h.0 < n = h.1 in omega arith), h.2)
    go (no h) (yes p) = yes (n, omega arith, p)
    go (no h) (no p) = no (λ k. at k.0 k.1 k.2 (three_way k.0 n))
      where
        at : (i : ℕ) → i < suc n → P i → (i < n) ⊎ ((i ≡ n) ⊎ (n < i)) → ⊥
        at i less q (inl l) = h (i, l, q)
        at i less q (inr (inl e)) = p (subst P e q)
        at i less q (inr (inr g)) = omega arith

-- whether no number below n has it
pub dec_none : (n : ℕ) (P : ℕ → Type 0) → ((i : ℕ) → Dec (P i)) → Dec ((i : ℕ) → i < n → P i → ⊥)
dec_none n P d = map_dec (λ h i less p. h (i, less, p)) (λ h k. h k.0 k.1 k.2) (dec_not (dec_some n P d))

-- whether two operations are equal
pub op_discrete : (a b : Op) → Dec (a ≡ b)
op_discrete (Read x) (Read y) = map_dec (ap Read) (λ e. cc) (ℕ_discrete x y)
op_discrete (Read x) _ = no (λ e. cc)
op_discrete (Write x) (Write y) = map_dec (ap Write) (λ e. cc) (ℕ_discrete x y)
op_discrete (Write x) _ = no (λ e. cc)
op_discrete (Acquire x) (Acquire y) = map_dec (ap Acquire) (λ e. cc) (ℕ_discrete x y)
op_discrete (Acquire x) _ = no (λ e. cc)
op_discrete (Release x) (Release y) = map_dec (ap Release) (λ e. cc) (ℕ_discrete x y)
op_discrete (Release x) _ = no (λ e. cc)
op_discrete (Fork x) (Fork y) = map_dec (ap Fork) (λ e. cc) (ℕ_discrete x y)
op_discrete (Fork x) _ = no (λ e. cc)
op_discrete (Join x) (Join y) = map_dec (ap Join) (λ e. cc) (ℕ_discrete x y)
op_discrete (Join x) _ = no (λ e. cc)

-- whether an option is that value
pub dec_is : {A : Type 0} → ((a b : A) → Dec (a ≡ b)) → (o : Option A) (a : A) → Dec (o ≡ Some a)
dec_is d None a = no (λ e. cc)
dec_is d (Some b) a = map_dec (ap Some) (λ e. cc) (d b a)

-- whether a place has the operation
pub dec_op : (trace : List Event) (i : ℕ) (o : Op) → Dec (op_at trace i ≡ Some o)
dec_op trace i o = dec_is op_discrete (op_at trace i) o

-- whether a place is of the thread
pub dec_thread : (trace : List Event) (i t : ℕ) → Dec (thread_at trace i ≡ Some t)
dec_thread trace i t = dec_is ℕ_discrete (thread_at trace i) t

-- whether a value of the option has the property
dec_with : {A : Type 0} (o : Option A) (P : A → Type 0) → ((a : A) → Dec (P a)) → Dec ((a : A) × (o ≡ Some a) × P a)
dec_with None P d = no (λ h. let e = h.1 in cc)
dec_with (Some b) P d = map_dec (λ p. (b, refl, p)) (λ h. subst P (let e = h.1 in cc) h.2) (d b)

-- what a fork comes before
abbrev AfterFork : List Event → Op → ℕ → Type 0
AfterFork trace (Fork u) j = (thread_at trace j ≡ Some u) ⊎ (op_at trace j ≡ Some (Join u))
AfterFork trace _ j = ⊥

-- whether a place is after the fork in program order
dec_after_fork : (trace : List Event) (o : Op) (j : ℕ) → Dec (AfterFork trace o j)
dec_after_fork trace (Fork u) j = dec_or (dec_thread trace j u) (dec_op trace j (Join u))
dec_after_fork trace (Join u) j = no (λ h. h)
dec_after_fork trace (Acquire u) j = no (λ h. h)
dec_after_fork trace (Release u) j = no (λ h. h)
dec_after_fork trace (Read u) j = no (λ h. h)
dec_after_fork trace (Write u) j = no (λ h. h)

-- the cases of program order, by the thread and the operation of the first place
abbrev ByThread : List Event → ℕ → ℕ → Type 0
ByThread trace i j = (t : ℕ) × (thread_at trace i ≡ Some t) × ((thread_at trace j ≡ Some t) ⊎ (op_at trace j ≡ Some (Join t)))

-- place i is a fork that comes before place j
abbrev ByFork : List Event → ℕ → ℕ → Type 0
ByFork trace i j = (o : Op) × (op_at trace i ≡ Some o) × AfterFork trace o j

-- the cases of program order, from a place that is less
before_from : (trace : List Event) (i j : ℕ) → (i < j) × (ByThread trace i j ⊎ ByFork trace i j) → Before trace i j
before_from trace i j h = go h.1
  where
    thread_case : (t : ℕ) → thread_at trace i ≡ Some t → (thread_at trace j ≡ Some t) ⊎ (op_at trace j ≡ Some (Join t)) → Before trace i j
    thread_case t e (inl k) = Before.same_thread t h.0 e k
    thread_case t e (inr k) = Before.event_join t h.0 e k

    fork_case : (o : Op) → op_at trace i ≡ Some o → AfterFork trace o j → Before trace i j
    fork_case (Fork u) e (inl k) = Before.fork_event u h.0 e k
    fork_case (Fork u) e (inr k) = Before.fork_join u h.0 e k
    fork_case (Join u) e k = absurd k
    fork_case (Acquire u) e k = absurd k
    fork_case (Release u) e k = absurd k
    fork_case (Read u) e k = absurd k
    fork_case (Write u) e k = absurd k

    go : ByThread trace i j ⊎ ByFork trace i j → Before trace i j
    go (inl b) = thread_case b.0 b.1 b.2
    go (inr b) = fork_case b.0 b.1 b.2

-- and back
cases_of : (trace : List Event) (i j : ℕ) → Before trace i j → (i < j) × (ByThread trace i j ⊎ ByFork trace i j)
cases_of trace i j (Before.same_thread t h a b) = (h, inl (t, a, inl b))
cases_of trace i j (Before.fork_event u h a b) = (h, inr (Fork u, a, inl b))
cases_of trace i j (Before.event_join u h a b) = (h, inl (u, a, inr b))
cases_of trace i j (Before.fork_join u h a b) = (h, inr (Fork u, a, inr b))

-- whether one place comes before another
pub dec_before : (trace : List Event) (i j : ℕ) → Dec (Before trace i j)
dec_before trace i j = map_dec (before_from trace i j) (cases_of trace i j)
    (dec_and (dec_lt i j) (dec_or
    (dec_with (thread_at trace i) (λ t. (thread_at trace j ≡ Some t) ⊎ (op_at trace j ≡ Some (Join t))) (λ t. dec_or (dec_thread trace j t) (dec_op trace j (Join t))))
    (dec_with (op_at trace i) (λ o. AfterFork trace o j) (λ o. dec_after_fork trace o j))))

-- whether a place is the last write of a variable before another
pub dec_last_write : (trace : List Event) (j x w : ℕ) → Dec (IsLastWrite trace ◌<◌ j x w)
dec_last_write trace j x w = map_dec
    (λ h. record { writes = h.0; before = h.1.0; last = λ v writes after until. h.1.1 v until (writes, after) })
    (λ h. (h.writes, (h.before, λ v until k. h.last v k.0 k.1 until)))
    (dec_and (dec_op trace w (Write x)) (dec_and (dec_lt w j) (dec_none j (λ v. Writes trace v x × (w < v)) (λ v. dec_and (dec_op trace v (Write x)) (dec_lt w v)))))

-- whether the thread releases the lock at a place
dec_releases : (trace : List Event) (r t l : ℕ) → Dec (Releases trace r t l)
dec_releases trace r t l = map_dec (λ h. record { thread = h.0; op = h.1 }) (λ h. (h.thread, h.op)) (dec_and (dec_thread trace r t) (dec_op trace r (Release l)))

-- whether r is the release of an acquire of the lock at a
pub dec_release : (trace : List Event) (a l r : ℕ) → op_at trace a ≡ Some (Acquire l) → Dec (IsReleaseOf trace a r)
dec_release trace a l r at_a = map_dec to from
    (dec_with (thread_at trace a) (λ t. Releases trace r t l × ((a < r) × ((q : ℕ) → q < r → Releases trace q t l × (a < q) → ⊥)))
    (λ t. dec_and (dec_releases trace r t l) (dec_and (dec_lt a r) (dec_none r (λ q. Releases trace q t l × (a < q)) (λ q. dec_and (dec_releases trace q t l) (dec_lt a q))))))
  where
    to : (t : ℕ) × (thread_at trace a ≡ Some t) × (Releases trace r t l × ((a < r) × ((q : ℕ) → q < r → Releases trace q t l × (a < q) → ⊥))) → IsReleaseOf trace a r
    to h = record {
      thread = h.0;
      lock = l;
      acquires = record { thread = h.1; op = at_a };
      releases = h.2.0;
      later = h.2.1.0;
      first = λ q releases after until. h.2.1.1 q until (releases, after);
    }

    from : IsReleaseOf trace a r → (t : ℕ) × (thread_at trace a ≡ Some t) × (Releases trace r t l × ((a < r) × ((q : ℕ) → q < r → Releases trace q t l × (a < q) → ⊥)))
    from h =
        let own = h.acquires.op in
        let same : h.lock ≡ l = cc in
        (h.thread, h.acquires.thread, (subst (λ (k : ℕ). Releases trace r h.thread k) same h.releases, (h.later, λ q until k. h.first q (subst (λ (m : ℕ). Releases trace q h.thread m) (sym same) k.0) k.1 until)))
