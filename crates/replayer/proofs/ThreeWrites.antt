-- A small trace with a race: the first thread writes a variable and then another one, which the second thread writes too.
use Rattle.std.specs.Option.{option_map}
use Rattle.std.proofs.Common.{◌≡◌, ◌<◌, ℕ, zero, suc, inl, inr, List, [], ◌∷◌, Option, Some, length, slice_get, slice_index, slice_index_or, Contains, refl, sym, ap, ◌∙◌, subst, arith}
use Rattle.trace_laws.specs.declared.event.Op.{Op}
use Rattle.trace_laws.specs.declared.event.Op.TheVariants.{Read, Write, Acquire, Fork, Join}
use Rattle.trace_laws.specs.Event.{Event}
use Rattle.trace_laws.specs.Trace.{thread_at, op_at, Writes, Before, LockLaw, same_thread, fork_event, event_join, fork_join}
use Rattle.trace_laws.specs.Reordering.{Earlier, CorrectReordering, Enabled, LeavesEnabled, IsNeeded}
use Rattle.trace_laws.proofs.Places.{contains_none}
use Rattle.trace_laws.specs.Findings.{HasCount}
use Rattle.trace_laws.specs.Traces.{History}
use Rattle.replayer.specs.Replayed.{IsRaceOf}
use Rattle.replayer.proofs.Reaching.{first_pick}

-- the only element of a list of one
only : (a p : ℕ) → Contains (a ∷ []) p → p ≡ a
only a p (zero, less, same) = sym same
only a p (suc k, less, same) = absurd (omega arith)

-- a list of one element holds it
has_one : (a : ℕ) → Contains (a ∷ []) a
has_one a = (0, omega arith, refl)

-- the index of an element of a list of one
index_one : (a k p : ℕ) → slice_get (a ∷ []) k ≡ Some p → k ≡ 0
index_one a zero p h = refl
index_one a (suc k) p h = absurd (cc)

-- the two threads are not one
other_thread : ◌≡◌ {A = Option ℕ} (Some 0) (Some 1) → ⊥
other_thread h = absurd (cc)

module _ (y x l m n : ℕ) where
  -- the events
  trace : List Event
  trace = record { thread = 0; op = Write y; loc = l } ∷ record { thread = 0; op = Write x; loc = m } ∷ record { thread = 1; op = Write x; loc = n } ∷ []

  -- each operation is a write
  writes : (i : ℕ) (op : Op) → op_at trace i ≡ Some op → (v : ℕ) × (op ≡ Write v)
  unfolding trace
  writes zero op h = (y, cc)
  writes (suc zero) op h = (x, cc)
  writes (suc (suc zero)) op h = (x, cc)
  writes (suc (suc (suc k))) op h = absurd (cc)

  -- program order is that of the first thread
  before : (i j : ℕ) → Before trace i j → (i ≡ 0) × (j ≡ 1)
  unfolding trace
  before i j (same_thread t less at_i at_j) = go i j less at_i at_j
    where
      go : (i j : ℕ) → i < j → thread_at trace i ≡ Some t → thread_at trace j ≡ Some t → (i ≡ 0) × (j ≡ 1)
      go i zero less at_i at_j = absurd (omega arith)
      go zero (suc zero) less at_i at_j = (refl, refl)
      go (suc i) (suc zero) less at_i at_j = absurd (omega arith)
      go zero (suc (suc zero)) less at_i at_j = absurd (let a : 0 ≡ t = (let e = at_i in cc) in let b : 1 ≡ t = (let e = at_j in cc) in omega arith)
      go (suc zero) (suc (suc zero)) less at_i at_j = absurd (let a : 0 ≡ t = (let e = at_i in cc) in let b : 1 ≡ t = (let e = at_j in cc) in omega arith)
      go (suc (suc i)) (suc (suc zero)) less at_i at_j = absurd (omega arith)
      go i (suc (suc (suc j))) less at_i at_j = absurd (cc)
  before i j (fork_event u less forks at_j) = let (v, is) = writes i (Fork u) forks in absurd (cc)
  before i j (event_join u less at_i joins) = let (v, is) = writes j (Join u) joins in absurd (cc)
  before i j (fork_join u less forks joins) = let (v, is) = writes i (Fork u) forks in absurd (cc)

  -- no law of locks speaks of a write
  free : (j : ℕ) (e : Event) → slice_get trace j ≡ Some e → LockLaw trace (Earlier (0 ∷ [])) j e.thread e.op
  free j e here = let (v, is) = writes j e.op (ap (option_map (λ (z : Event). z.op)) here) in subst (λ o. LockLaw trace (Earlier (0 ∷ [])) j e.thread o) (sym is) tt

  -- the first place alone is a correct reordering
  correct : CorrectReordering trace (0 ∷ [])
  unfolding trace
  correct = record {
    within = λ j inside. (let is = only 0 j inside in omega arith);
    distinct = λ a b p at_a at_b. index_one 0 a p at_a ∙ sym (index_one 0 b p at_b);
    program = λ i j inside order. absurd (let is = only 0 j inside in let (first, second) = before i j order in omega arith);
    locks = λ j e inside here. free j e here;
    writers = λ r v w inside reads is. absurd (let (u, write) = writes r (Read v) reads in cc);
  }

  -- and leaves the other two enabled
  leaves : LeavesEnabled trace (0 ∷ []) (1 ∷ 2 ∷ [])
  unfolding trace
  leaves = record {
    correct = correct;
    preserving = λ a b ex in_a in_b. absurd (let (v, is) = writes a (Acquire ex.lock) ex.first in cc);
    enabled = λ e (k, less, same). left k e less same;
  }
    where
      left : (k e : ℕ) → k < 2 → slice_index_or (1 ∷ 2 ∷ []) k e ≡ e → Enabled trace (0 ∷ []) e
      left zero e less same = record {
        within = omega arith;
        absent = λ inside. (let is = only 0 e inside in omega arith);
        ready = λ i order. (let (first, second) = before i e order in subst (λ z. Contains (0 ∷ []) z) (sym first) (has_one 0));
      }
      left (suc zero) e less same = record {
        within = omega arith;
        absent = λ inside. (let is = only 0 e inside in omega arith);
        ready = λ i order. absurd (let (first, second) = before i e order in omega arith);
      }
      left (suc (suc k)) e less same = absurd (omega arith)

  -- the first place is needed, since it comes before the second
  needed : IsNeeded trace (1 ∷ 2 ∷ []) 0
  unfolding trace
  needed places is = (is.enabled 1 (first_pick 1 2)).ready 0 (same_thread 0 (omega arith) refl refl)

  -- and no other one is
  none_else : (p : ℕ) → IsNeeded trace (1 ∷ 2 ∷ []) p → p ≡ 0
  none_else p need = only 0 p (need (0 ∷ []) leaves)

  -- how many places of each thread are needed
  counts : (t : ℕ) → t < 2 → HasCount (λ p. (thread_at trace p ≡ Some t) × IsNeeded trace (1 ∷ 2 ∷ []) p) (slice_index (1 ∷ 0 ∷ []) t)
  unfolding trace
  counts zero less = record {
    places = 0 ∷ [];
    order = λ a b i j low at_a at_b. absurd (let first = index_one 0 a i at_a in let second = index_one 0 b j at_b in omega arith);
    members = λ p. (
      (λ inside. (let is = only 0 p inside in subst (λ z. (thread_at trace z ≡ Some 0) × IsNeeded trace (1 ∷ 2 ∷ []) z) (sym is) (refl, needed))),
      (λ h. need_in p h.1),
    );
    size = refl;
  }
    where
      need_in : (p : ℕ) → IsNeeded trace (1 ∷ 2 ∷ []) p → Contains (0 ∷ []) p
      need_in p need = need (0 ∷ []) leaves
  counts (suc zero) less = record {
    places = [];
    order = λ a b i j low at_a at_b. absurd (cc);
    members = λ p. (
      (λ inside. absurd (contains_none p inside)),
      (λ h. absurd (other_thread (subst (λ z. thread_at trace z ≡ Some 1) (none_else p h.1) h.0))),
    );
    size = refl;
  }
  counts (suc (suc t)) less = absurd (omega arith)

  -- so the two writes are a race
  race : IsRaceOf (record { events = trace; threads = 2 }) (record { later = 2; earlier = 1; keep = 1 ∷ 0 ∷ [] })
  unfolding trace
  race = record {
    race = record {
      conflict = record { var = x; first = inr refl; second = inr refl; apart = λ e. other_thread e; writes = inl refl };
      enabled = record { places = 0 ∷ []; leaves = leaves };
    };
    keep = record { size = refl; counts = counts };
  }

-- an event, from its thread and its operation
event_is : (e : Event) (t : ℕ) (op : Op) → Some e.thread ≡ Some t → Some e.op ≡ Some op → e ≡ record { thread = t; op = op; loc = e.loc }
event_is e t op own is = (let a : e.thread ≡ t = cc in let b : e.op ≡ op = cc in λ i. record { thread = a i; op = b i; loc = e.loc })

-- a trace of three such writes has that race
pub three_writes : (h : History) (y x : ℕ) → length h.events ≡ 3 → h.threads ≡ 2
    → thread_at h.events 0 ≡ Some 0 → Writes h.events 0 y → thread_at h.events 1 ≡ Some 0 → Writes h.events 1 x → thread_at h.events 2 ≡ Some 1 → Writes h.events 2 x
    → IsRaceOf h (record { later = 2; earlier = 1; keep = 1 ∷ 0 ∷ [] })
unfolding trace
three_writes h y x size threads = go h.events refl size
  where
    go : (es : List Event) → h.events ≡ es → length es ≡ 3
        → thread_at es 0 ≡ Some 0 → Writes es 0 y → thread_at es 1 ≡ Some 0 → Writes es 1 x → thread_at es 2 ≡ Some 1 → Writes es 2 x
        → IsRaceOf h (record { later = 2; earlier = 1; keep = 1 ∷ 0 ∷ [] })
    go [] is size t0 w0 t1 w1 t2 w2 = absurd (omega arith)
    go (a ∷ []) is size t0 w0 t1 w1 t2 w2 = absurd (omega arith)
    go (a ∷ b ∷ []) is size t0 w0 t1 w1 t2 w2 = absurd (omega arith)
    go (a ∷ b ∷ c ∷ d ∷ es) is size t0 w0 t1 w1 t2 w2 = absurd (omega arith)
    go (a ∷ b ∷ c ∷ []) is size t0 w0 t1 w1 t2 w2 =
        let first = event_is a 0 (Write y) t0 w0 in
        let second = event_is b 0 (Write x) t1 w1 in
        let third = event_is c 1 (Write x) t2 w2 in
        let all : h ≡ record { events = trace y x a.loc b.loc c.loc; threads = 2 } = whole a b c first second third is in
        subst (λ z. IsRaceOf z (record { later = 2; earlier = 1; keep = 1 ∷ 0 ∷ [] })) (sym all) (race y x a.loc b.loc c.loc)
      where
        whole : (a b c : Event) → a ≡ record { thread = 0; op = Write y; loc = a.loc } → b ≡ record { thread = 0; op = Write x; loc = b.loc }
            → c ≡ record { thread = 1; op = Write x; loc = c.loc } → h.events ≡ a ∷ b ∷ c ∷ [] → h ≡ record { events = trace y x a.loc b.loc c.loc; threads = 2 }
        whole a b c first second third is = λ i. record { events = (is ∙ (λ j. first j ∷ second j ∷ third j ∷ [])) i; threads = threads i }
