-- What threads hold, from place to place.
use Rattle.std.proofs.Common.{◌≡◌, ◌≢◌, ℕ, ◌+◌, ◌<◌, ◌≤◌, List, [], length, Some, ◌⊎◌, inl, inr, sym, subst, ◌∙◌, arith}
use Rattle.std.specs.Prelude.{slice_get, slice_set, Vec, Contains, All, ◌↔◌}
use Rattle.std.specs.declared.alloc.Global.{Global}
use Rattle.std.proofs.Math.ListN.{length-set}
use Rattle.std.proofs.lemmas.Bool.{cases_eq}
use Rattle.std.proofs.lemmas.Option.{slice_get_within, get_or_from_slice_get}
use Rattle.sp_base.specs.declared.limits.TheConstants.{MAX_LOCKS, MAX_THREADS}
use Rattle.trace_laws.specs.Event.{Event}
use Rattle.trace_laws.specs.declared.event.Op.TheVariants.{Acquire, Release}
use Rattle.trace_laws.specs.Trace.{op_at, Acquires, Releases, Holds}
use Rattle.trace_laws.specs.Reordering.{Rises}
use Rattle.trace_laws.proofs.Places.{contains_none, within_from_op}
use Rattle.trace_laws.proofs.Growing.{slice_get-set_same, slice_get-set_other}
use Rattle.trace_index.specs.HeldSets.{AreLocksBelow, AreHeldBy, AreHoldings}

-- before the first place no thread holds a lock
pub holdings_none : (events : List Event) (held : List (Vec ℕ Global)) → length held ≡ MAX_THREADS → All (λ (v : Vec ℕ Global). v.items ≡ []) held → AreHoldings events 0 held
holdings_none events held threads none = record {
  threads = threads;
  below = λ a l less op. absurd (omega arith);
  each = λ t v at. subst (AreHeldBy events 0 t) (sym (subst (λ (w : Vec ℕ Global). w.items ≡ []) (get_or_from_slice_get held t v v at) (none t v (slice_get_within held t v at)))) (record {
    order = λ a b i j less at_a at_b. cc;
    members = λ l. (λ c. absurd (contains_none l c), λ h. let before = h.before in absurd (omega arith));
  });
}

-- what a thread holds before a place, and behind it
module _ (events : List Event) (n t l : ℕ) where
  -- what the place does not release stays held
  holds_on : (Releases events n t l → ⊥) → Holds events ◌<◌ n t l → Holds events ◌<◌ (n + 1) t l
  holds_on other h = record { since = h.since; acquired = h.acquired; before = let before = h.before in omega arith; kept = λ r releases after until. go r releases after until (cases_eq r n) }
    where
      go : (r : ℕ) → Releases events r t l → h.since < r → r < n + 1 → (r ≡ n) ⊎ (r ≢ n) → ⊥
      go r releases after until (inl same) = other (subst (λ (k : ℕ). Releases events k t l) same releases)
      go r releases after until (inr less) = h.kept r releases after (omega (arith, less))

  -- what the place does not acquire was acquired before it
  since_before : (Acquires events n t l → ⊥) → (h : Holds events ◌<◌ (n + 1) t l) → h.since < n
  since_before other h = go (cases_eq h.since n)
    where
      go : (h.since ≡ n) ⊎ (h.since ≢ n) → h.since < n
      go (inl same) = absurd (other (subst (λ (k : ℕ). Acquires events k t l) same h.acquired))
      go (inr less) = let before = h.before in omega (arith, less)

  -- and was held before it
  holds_back : (Acquires events n t l → ⊥) → Holds events ◌<◌ (n + 1) t l → Holds events ◌<◌ n t l
  holds_back other h = record { since = h.since; acquired = h.acquired; before = since_before other h; kept = λ r releases after until. h.kept r releases after (omega arith) }

-- a place that neither acquires nor releases a lock of the thread leaves what it holds
stays : (events : List Event) (n t : ℕ) (held : List ℕ) → ((l : ℕ) → Acquires events n t l → ⊥) → ((l : ℕ) → Releases events n t l → ⊥) → AreHeldBy events n t held → AreHeldBy events (n + 1) t held
stays events n t held no_acquire no_release old = record {
  order = old.order;
  members = λ l. (λ c. holds_on events n t l (no_release l) ((old.members l).0 c), λ h. (old.members l).1 (holds_back events n t l (no_acquire l) h));
}

-- what the threads hold before a place
module _ (events : List Event) (n : ℕ) (held : List (Vec ℕ Global)) (old : AreHoldings events n held) where
  -- a place that acquires nothing leaves the locks below their greatest number
  below_next : ((l : ℕ) → op_at events n ≡ Some (Acquire l) → ⊥) → (a l : ℕ) → a < n + 1 → op_at events a ≡ Some (Acquire l) → (a ≡ n) ⊎ (a ≢ n) → l < MAX_LOCKS
  below_next none a l less op (inl same) = absurd (none l (subst (λ (k : ℕ). op_at events k ≡ Some (Acquire l)) same op))
  below_next none a l less op (inr other) = old.below a l (omega (arith, other)) op

  -- a place that neither acquires nor releases changes nothing
  pub holdings_stay : ((l : ℕ) → op_at events n ≡ Some (Acquire l) → ⊥) → ((l : ℕ) → op_at events n ≡ Some (Release l) → ⊥) → AreHoldings events (n + 1) held
  holdings_stay no_acquire no_release = record {
    threads = old.threads;
    below = λ a l less op. below_next no_acquire a l less op (cases_eq a n);
    each = λ t v at. stays events n t v.items (λ l h. no_acquire l h.op) (λ l h. no_release l h.op) (old.each t v at);
  }

  -- the thread of the place holds something else behind it
  module _ (t : ℕ) (v w : Vec ℕ Global) (at : slice_get held t ≡ Some v) where
    -- where the others hold the same
    written : ((a l : ℕ) → a < n + 1 → op_at events a ≡ Some (Acquire l) → l < MAX_LOCKS) → AreHeldBy events (n + 1) t w.items → ((u l : ℕ) → u ≢ t → Acquires events n u l → ⊥) → ((u l : ℕ) → u ≢ t → Releases events n u l → ⊥) → AreHoldings events (n + 1) (slice_set held t w)
    written below own no_acquire no_release = record {
      threads = length-set held t w ∙ old.threads;
      below = below;
      each = λ u x at_u. go u x at_u (cases_eq u t);
    }
      where
        go : (u : ℕ) (x : Vec ℕ Global) → slice_get (slice_set held t w) u ≡ Some x → (u ≡ t) ⊎ (u ≢ t) → AreHeldBy events (n + 1) u x.items
        go u x at_u (inl same) =
            let now : slice_get (slice_set held t w) t ≡ Some w = slice_get-set_same held t w (slice_get_within held t v at) in
            let there : slice_get (slice_set held t w) t ≡ Some x = subst (λ (k : ℕ). slice_get (slice_set held t w) k ≡ Some x) same at_u in
            let is : w ≡ x = cc in
            subst (λ (k : ℕ). AreHeldBy events (n + 1) k x.items) (sym same) (subst (λ (k : Vec ℕ Global). AreHeldBy events (n + 1) t k.items) is own)
        go u x at_u (inr other) = stays events n u x.items (λ l. no_acquire u l other) (λ l. no_release u l other) (old.each u x (sym (slice_get-set_other held t u w other) ∙ at_u))

    -- an acquire adds its lock
    pub holdings_acquire : (l : ℕ) → l < MAX_LOCKS → Acquires events n t l → Rises w.items → ((k : ℕ) → Contains w.items k ↔ ((k ≡ l) ⊎ Contains v.items k)) → AreHoldings events (n + 1) (slice_set held t w)
    holdings_acquire l few acquires order members = written (λ a k less op. bound a k less op (cases_eq a n)) (record { order = order; members = λ k. (λ c. forth k ((members k).0 c), λ h. (members k).1 (back k h (cases_eq k l))) }) (λ u k other h. other (one_thread u k h)) (λ u k other h. no_release u k h)
      where
        one_thread : (u k : ℕ) → Acquires events n u k → u ≡ t
        one_thread u k h = let x = h.thread in let y = acquires.thread in cc

        one_lock : (u k : ℕ) → Acquires events n u k → k ≡ l
        one_lock u k h = let x = h.op in let y = acquires.op in cc

        bound : (a k : ℕ) → a < n + 1 → op_at events a ≡ Some (Acquire k) → (a ≡ n) ⊎ (a ≢ n) → k < MAX_LOCKS
        bound a k less op (inl same) = let own = acquires.op in let there : op_at events n ≡ Some (Acquire k) = subst (λ (p : ℕ). op_at events p ≡ Some (Acquire k)) same op in let is : k ≡ l = cc in omega arith
        bound a k less op (inr other) = old.below a k (omega (arith, other)) op

        no_release : (u k : ℕ) → Releases events n u k → ⊥
        no_release u k h = let x = h.op in let y = acquires.op in cc

        own : Holds events ◌<◌ (n + 1) t l
        own = record { since = n; acquired = acquires; before = omega arith; kept = λ r releases after until. omega arith }

        forth : (k : ℕ) → (k ≡ l) ⊎ Contains v.items k → Holds events ◌<◌ (n + 1) t k
        forth k (inl same) = subst (Holds events ◌<◌ (n + 1) t) (sym same) own
        forth k (inr c) = holds_on events n t k (no_release t k) (((old.each t v at).members k).0 c)

        back : (k : ℕ) → Holds events ◌<◌ (n + 1) t k → (k ≡ l) ⊎ (k ≢ l) → (k ≡ l) ⊎ Contains v.items k
        back k h (inl same) = inl same
        back k h (inr other) = inr (((old.each t v at).members k).1 (holds_back events n t k (λ a. other (one_lock t k a)) h))

    -- a release takes its lock out
    pub holdings_release : (l : ℕ) → Releases events n t l → Rises w.items → ((k : ℕ) → Contains w.items k ↔ ((k ≢ l) × Contains v.items k)) → AreHoldings events (n + 1) (slice_set held t w)
    holdings_release l releases order members = written (λ a k less op. below_next (λ m acquire. let own = releases.op in cc) a k less op (cases_eq a n)) (record { order = order; members = λ k. (λ c. let h = (members k).0 c in holds_on events n t k (λ r. h.0 (one_lock t k r)) (((old.each t v at).members k).0 h.1), λ h. (members k).1 (λ same. freed k same h, ((old.each t v at).members k).1 (holds_back events n t k (no_acquire t k) h))) }) (λ u k other h. no_acquire u k h) (λ u k other h. other (one_thread u k h))
      where
        one_thread : (u k : ℕ) → Releases events n u k → u ≡ t
        one_thread u k h = let x = h.thread in let y = releases.thread in cc

        one_lock : (u k : ℕ) → Releases events n u k → k ≡ l
        one_lock u k h = let x = h.op in let y = releases.op in cc

        no_acquire : (u k : ℕ) → Acquires events n u k → ⊥
        no_acquire u k h = let x = h.op in let y = releases.op in cc

        freed : (k : ℕ) → k ≡ l → Holds events ◌<◌ (n + 1) t k → ⊥
        freed k same h = h.kept n (subst (Releases events n t) (sym same) releases) (since_before events n t k (no_acquire t k) h) (omega arith)

-- at the end of the trace all locks are below their greatest number
pub locks_below : (events : List Event) (n : ℕ) (held : List (Vec ℕ Global)) → length events ≤ n → AreHoldings events n held → AreLocksBelow events MAX_LOCKS
locks_below events n held all old a l op = let within = within_from_op events a (Acquire l) op in old.below a l (omega arith) op
