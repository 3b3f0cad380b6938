-- A trace that grows by one event.
use Rattle.std.proofs.Common.{◌≡◌, ◌≢◌, ℕ, suc, ◌+◌, ◌<◌, ◌≤◌, List, [], ◌∷◌, ◌++◌, length, Some, ◌⊎◌, inl, inr, sym, ap, subst, ◌∙◌, arith, length-append}
use Rattle.std.specs.Prelude.{slice_get, slice_set}
use Rattle.std.specs.Option.{option_map}
use Rattle.std.proofs.Math.ListN.{length-set}
use Rattle.std.proofs.lemmas.List.{get_or-set_same, get_or-set_other}
use Rattle.std.proofs.lemmas.Option.{slice_get_within, slice_get_past, slice_get-get_or}
use Rattle.trace_laws.specs.Event.{Event}
use Rattle.trace_laws.specs.declared.event.Op.{Op}
use Rattle.trace_laws.specs.declared.event.Op.TheVariants.{Read, Write, Acquire, Release, Fork, Join}
use Rattle.trace_laws.specs.Trace.{thread_at, op_at, Acquires, Releases, Holds, LockLaw, ThreadLaw, MeetsLaws, MayFollow, Lawful, HasStarted}
use Rattle.trace_laws.specs.Faults.{HoldsNow}
use Rattle.trace_laws.proofs.Places.{event_of, op_from_event, thread_from_event, three_way, slice_get-append_left, slice_get-append_seam}

-- in a lawful trace one thread at most holds a lock
pub one_holder : (trace : List Event) → Lawful trace → (j t u l : ℕ) → Holds trace ◌<◌ j t l → Holds trace ◌<◌ j u l → t ≡ u
one_holder trace lawful j t u l a b = go (three_way a.since b.since)
  where
    no_later : (v w : ℕ) (first : Holds trace ◌<◌ j v l) (second : Holds trace ◌<◌ j w l) → first.since < second.since → ⊥
    no_later v w first second less =
        let found = event_of trace second.since (Acquire l) second.acquired.op in
        let law : LockLaw trace ◌<◌ second.since found.0.thread (Acquire l) = subst (λ (o : Op). LockLaw trace ◌<◌ second.since found.0.thread o) found.2 (lawful second.since found.0 found.1).locks in
        law v (record { since = first.since; acquired = first.acquired; before = less; kept = λ r releases after until. let until_j : second.since < j = second.before in first.kept r releases after (omega arith) })

    go : (a.since < b.since) ⊎ ((a.since ≡ b.since) ⊎ (b.since < a.since)) → t ≡ u
    go (inl h) = absurd (no_later t u a b h)
    go (inr (inl h)) = let first = a.acquired.thread in let second = b.acquired.thread in cc
    go (inr (inr h)) = absurd (no_later u t b a h)

-- the trace, and one event behind it
module _ (trace : List Event) (e : Event) where
  -- each place of the trace keeps its operation
  op_left : (i : ℕ) → i < length trace → op_at (trace ++ e ∷ []) i ≡ op_at trace i
  op_left i h = ap (option_map (λ (x : Event). x.op)) (slice_get-append_left trace (e ∷ []) i h)

  -- and its thread
  thread_left : (i : ℕ) → i < length trace → thread_at (trace ++ e ∷ []) i ≡ thread_at trace i
  thread_left i h = ap (option_map (λ (x : Event). x.thread)) (slice_get-append_left trace (e ∷ []) i h)

  -- the last place has the event's operation
  op_last : op_at (trace ++ e ∷ []) (length trace) ≡ Some e.op
  op_last = op_from_event (trace ++ e ∷ []) (length trace) e (slice_get-append_seam trace e)

  -- and its thread
  thread_last : thread_at (trace ++ e ∷ []) (length trace) ≡ Some e.thread
  thread_last = thread_from_event (trace ++ e ∷ []) (length trace) e (slice_get-append_seam trace e)

  -- there is one place more
  size : length (trace ++ e ∷ []) ≡ suc (length trace)
  size = let s : length (trace ++ e ∷ []) ≡ length trace + 1 = length-append trace (e ∷ []) in omega arith

  -- an acquire at a place of the trace was there before
  acquires_before : (i t l : ℕ) → i < length trace → Acquires (trace ++ e ∷ []) i t l → Acquires trace i t l
  acquires_before i t l h a = record { thread = sym (thread_left i h) ∙ a.thread; op = sym (op_left i h) ∙ a.op }

  -- and is there after
  acquires_after : (i t l : ℕ) → i < length trace → Acquires trace i t l → Acquires (trace ++ e ∷ []) i t l
  acquires_after i t l h a = record { thread = thread_left i h ∙ a.thread; op = op_left i h ∙ a.op }

  -- a release at a place of the trace was there before
  releases_before : (i t l : ℕ) → i < length trace → Releases (trace ++ e ∷ []) i t l → Releases trace i t l
  releases_before i t l h a = record { thread = sym (thread_left i h) ∙ a.thread; op = sym (op_left i h) ∙ a.op }

  -- and is there after
  releases_after : (i t l : ℕ) → i < length trace → Releases trace i t l → Releases (trace ++ e ∷ []) i t l
  releases_after i t l h a = record { thread = thread_left i h ∙ a.thread; op = op_left i h ∙ a.op }

  -- up to its end the trace says the same
  holds_before : (j t l : ℕ) → j ≤ length trace → Holds (trace ++ e ∷ []) ◌<◌ j t l → Holds trace ◌<◌ j t l
  holds_before j t l within h = let before : h.since < j = h.before in record {
    since = h.since;
    acquired = acquires_before h.since t l (omega arith) h.acquired;
    before = h.before;
    kept = λ r releases after until. h.kept r (releases_after r t l (omega arith) releases) after until;
  }

  -- and what it said it still says
  holds_after : (j t l : ℕ) → j ≤ length trace → Holds trace ◌<◌ j t l → Holds (trace ++ e ∷ []) ◌<◌ j t l
  holds_after j t l within h = let before : h.since < j = h.before in record {
    since = h.since;
    acquired = acquires_after h.since t l (omega arith) h.acquired;
    before = h.before;
    kept = λ r releases after until. h.kept r (releases_before r t l (omega arith) releases) after until;
  }

  -- a place of the trace, or its end, keeps the law of locks
  lock_law_after : (j t : ℕ) (o : Op) → j ≤ length trace → LockLaw trace ◌<◌ j t o → LockLaw (trace ++ e ∷ []) ◌<◌ j t o
  lock_law_after j t (Acquire l) within law = λ u held. law u (holds_before j u l within held)
  lock_law_after j t (Release l) within law = holds_after j t l within law
  lock_law_after j t (Read x) within law = tt
  lock_law_after j t (Write x) within law = tt
  lock_law_after j t (Fork u) within law = tt
  lock_law_after j t (Join u) within law = tt

  -- an operation that stands before place j
  op_before : (j : ℕ) (o : Op) → j ≤ length trace → (i : ℕ) × (i < j) × (op_at (trace ++ e ∷ []) i ≡ Some o) → (i : ℕ) × (i < j) × (op_at trace i ≡ Some o)
  op_before j o within h = let less : h.0 < j = h.1 in (h.0, h.1, sym (op_left h.0 (omega arith)) ∙ h.2)

  -- a thread that has an event before a place of the trace had it there
  started_before : (j u : ℕ) → j ≤ length trace → HasStarted (trace ++ e ∷ []) j u → HasStarted trace j u
  started_before j u within h = let less : h.0 < j = h.1 in (h.0, h.1, sym (thread_left h.0 (omega arith)) ∙ h.2)

  -- a place of the trace, or its end, keeps the law of threads
  thread_law_after : (j t : ℕ) (o : Op) → j ≤ length trace → ThreadLaw trace j t o → ThreadLaw (trace ++ e ∷ []) j t o
  thread_law_after j t (Fork u) within law = (law.0, λ h. law.1 (op_before j (Join u) within h), λ h. law.2 (op_before j (Fork u) within h), λ h. law.3 (started_before j u within h))
  thread_law_after j t (Join u) within law = law
  thread_law_after j t (Read x) within law = tt
  thread_law_after j t (Write x) within law = tt
  thread_law_after j t (Acquire l) within law = tt
  thread_law_after j t (Release l) within law = tt

  -- an event that met its laws still meets them
  laws_after : (j : ℕ) (f : Event) → j ≤ length trace → MeetsLaws trace j f → MeetsLaws (trace ++ e ∷ []) j f
  laws_after j f within laws = record {
    not_joined = λ h. laws.not_joined (op_before j (Join f.thread) within h);
    locks = lock_law_after j f.thread f.op within laws.locks;
    threads = thread_law_after j f.thread f.op within laws.threads;
  }

  -- a lawful trace with an event that may follow is lawful
  pub Lawful-push : Lawful trace → MayFollow trace e → Lawful (trace ++ e ∷ [])
  Lawful-push lawful may_follow j f at_j = go (three_way j (length trace))
    where
      go : (j < length trace) ⊎ ((j ≡ length trace) ⊎ (length trace < j)) → MeetsLaws (trace ++ e ∷ []) j f
      go (inl h) = laws_after j f (omega arith) (lawful j f (sym (slice_get-append_left trace (e ∷ []) j h) ∙ at_j))
      go (inr (inl h)) =
          let seam : slice_get (trace ++ e ∷ []) j ≡ Some e = ap (slice_get (trace ++ e ∷ [])) h ∙ slice_get-append_seam trace e in
          let same : e ≡ f = cc in
          subst (λ (x : Event). MeetsLaws (trace ++ e ∷ []) j x) same (subst (λ (k : ℕ). MeetsLaws (trace ++ e ∷ []) k e) (sym h) (laws_after (length trace) e (omega arith) may_follow))
      go (inr (inr h)) =
          let within : j < length (trace ++ e ∷ []) = slice_get_within (trace ++ e ∷ []) j f at_j in
          let s = size in
          absurd (omega arith)

  -- who holds a lock after the event held it before and did not release it, or acquires it
  pub hold_cases : (t l : ℕ) → HoldsNow (trace ++ e ∷ []) t l → (HoldsNow trace t l × ((e.thread ≡ t) → (e.op ≡ Release l) → ⊥)) ⊎ ((e.thread ≡ t) × (e.op ≡ Acquire l))
  hold_cases t l h = go (three_way h.since (length trace))
    where
      before_end : h.since < suc (length trace)
      before_end = subst (λ (k : ℕ). h.since < k) size h.before

      go : (h.since < length trace) ⊎ ((h.since ≡ length trace) ⊎ (length trace < h.since)) → (HoldsNow trace t l × ((e.thread ≡ t) → (e.op ≡ Release l) → ⊥)) ⊎ ((e.thread ≡ t) × (e.op ≡ Acquire l))
      go (inl less) = inl (
        record {
          since = h.since;
          acquired = acquires_before h.since t l less h.acquired;
          before = less;
          kept = λ r releases after until. h.kept r (releases_after r t l until releases) after (subst (λ (k : ℕ). r < k) (sym size) (omega arith));
        },
        λ same releases. h.kept (length trace) (record { thread = thread_last ∙ ap Some same; op = op_last ∙ ap Some releases }) less (subst (λ (k : ℕ). length trace < k) (sym size) (omega arith)),
      )
      go (inr (inl same)) =
          let own : thread_at (trace ++ e ∷ []) (length trace) ≡ Some t = subst (λ (k : ℕ). thread_at (trace ++ e ∷ []) k ≡ Some t) same h.acquired.thread in
          let op : op_at (trace ++ e ∷ []) (length trace) ≡ Some (Acquire l) = subst (λ (k : ℕ). op_at (trace ++ e ∷ []) k ≡ Some (Acquire l)) same h.acquired.op in
          let thread_is : Some e.thread ≡ Some t = sym thread_last ∙ own in
          let op_is : Some e.op ≡ Some (Acquire l) = sym op_last ∙ op in
          inr (cc, cc)
      go (inr (inr more)) = let b = before_end in absurd (omega arith)

  -- who held a lock and does not release it now still holds it
  pub hold_keeps : (t l : ℕ) → HoldsNow trace t l → ((e.thread ≡ t) → (e.op ≡ Release l) → ⊥) → HoldsNow (trace ++ e ∷ []) t l
  hold_keeps t l h other = record {
    since = h.since;
    acquired = acquires_after h.since t l h.before h.acquired;
    before = subst (λ (k : ℕ). h.since < k) (sym size) (let less : h.since < length trace = h.before in omega arith);
    kept = λ r releases after until. kept r releases after (subst (λ (k : ℕ). r < k) size until) (three_way r (length trace));
  }
    where
      kept : (r : ℕ) → Releases (trace ++ e ∷ []) r t l → h.since < r → r < suc (length trace) → (r < length trace) ⊎ ((r ≡ length trace) ⊎ (length trace < r)) → ⊥
      kept r releases after until (inl less) = h.kept r (releases_before r t l less releases) after less
      kept r releases after until (inr (inl same)) =
          let own : thread_at (trace ++ e ∷ []) (length trace) ≡ Some t = subst (λ (k : ℕ). thread_at (trace ++ e ∷ []) k ≡ Some t) same releases.thread in
          let op : op_at (trace ++ e ∷ []) (length trace) ≡ Some (Release l) = subst (λ (k : ℕ). op_at (trace ++ e ∷ []) k ≡ Some (Release l)) same releases.op in
          let thread_is : Some e.thread ≡ Some t = sym thread_last ∙ own in
          let op_is : Some e.op ≡ Some (Release l) = sym op_last ∙ op in
          other (cc) (cc)
      kept r releases after until (inr (inr more)) = absurd (omega arith)

  -- who acquires a lock now holds it
  pub hold_acquires : (l : ℕ) → e.op ≡ Acquire l → HoldsNow (trace ++ e ∷ []) e.thread l
  hold_acquires l is = record {
    since = length trace;
    acquired = record { thread = thread_last; op = op_last ∙ ap Some is };
    before = subst (λ (k : ℕ). length trace < k) (sym size) (omega arith);
    kept = λ r releases after until. let until_end : r < suc (length trace) = subst (λ (k : ℕ). r < k) size until in absurd (omega arith);
  }

  -- an operation that stands before the new end stood before the old one, or is the event's
  pub op_cases : (o : Op) → (i : ℕ) × (i < length (trace ++ e ∷ [])) × (op_at (trace ++ e ∷ []) i ≡ Some o) → ((i : ℕ) × (i < length trace) × (op_at trace i ≡ Some o)) ⊎ (e.op ≡ o)
  op_cases o h = go (three_way h.0 (length trace))
    where
      go : (h.0 < length trace) ⊎ ((h.0 ≡ length trace) ⊎ (length trace < h.0)) → ((i : ℕ) × (i < length trace) × (op_at trace i ≡ Some o)) ⊎ (e.op ≡ o)
      go (inl less) = inl (h.0, less, sym (op_left h.0 less) ∙ h.2)
      go (inr (inl same)) =
          let op : op_at (trace ++ e ∷ []) (length trace) ≡ Some o = subst (λ (k : ℕ). op_at (trace ++ e ∷ []) k ≡ Some o) same h.2 in
          let op_is : Some e.op ≡ Some o = sym op_last ∙ op in
          inr cc
      go (inr (inr more)) = let before_end : h.0 < suc (length trace) = subst (λ (k : ℕ). h.0 < k) size h.1 in absurd (omega arith)

  -- an operation that stood before the old end stands before the new one
  pub op_keeps : (o : Op) → (i : ℕ) × (i < length trace) × (op_at trace i ≡ Some o) → (i : ℕ) × (i < length (trace ++ e ∷ [])) × (op_at (trace ++ e ∷ []) i ≡ Some o)
  op_keeps o h = (h.0, subst (λ (k : ℕ). h.0 < k) (sym size) (let less : h.0 < length trace = h.1 in omega arith), op_left h.0 h.1 ∙ h.2)

  -- and so does the event's
  pub op_new : (o : Op) → e.op ≡ o → (i : ℕ) × (i < length (trace ++ e ∷ [])) × (op_at (trace ++ e ∷ []) i ≡ Some o)
  op_new o is = (length trace, subst (λ (k : ℕ). length trace < k) (sym size) (omega arith), op_last ∙ ap Some is)

  -- a thread that has an event had one before, or this is its event
  pub started_cases : (u : ℕ) → HasStarted (trace ++ e ∷ []) (length (trace ++ e ∷ [])) u → HasStarted trace (length trace) u ⊎ (e.thread ≡ u)
  started_cases u h = go (three_way h.0 (length trace))
    where
      go : (h.0 < length trace) ⊎ ((h.0 ≡ length trace) ⊎ (length trace < h.0)) → HasStarted trace (length trace) u ⊎ (e.thread ≡ u)
      go (inl less) = inl (h.0, less, sym (thread_left h.0 less) ∙ h.2)
      go (inr (inl same)) =
          let own : thread_at (trace ++ e ∷ []) (length trace) ≡ Some u = subst (λ (k : ℕ). thread_at (trace ++ e ∷ []) k ≡ Some u) same h.2 in
          let thread_is : Some e.thread ≡ Some u = sym thread_last ∙ own in
          inr cc
      go (inr (inr more)) = let before_end : h.0 < suc (length trace) = subst (λ (k : ℕ). h.0 < k) size h.1 in absurd (omega arith)

  -- a thread that had an event has one
  pub started_keeps : (u : ℕ) → HasStarted trace (length trace) u → HasStarted (trace ++ e ∷ []) (length (trace ++ e ∷ [])) u
  started_keeps u h = (h.0, subst (λ (k : ℕ). h.0 < k) (sym size) (let less : h.0 < length trace = h.1 in omega arith), thread_left h.0 h.1 ∙ h.2)

  -- the event's thread has an event
  pub started_new : HasStarted (trace ++ e ∷ []) (length (trace ++ e ∷ [])) e.thread
  started_new = (length trace, subst (λ (k : ℕ). length trace < k) (sym size) (omega arith), thread_last)

-- what stands where a list was written
pub slice_get-set_same : {X : Type 0} (xs : List X) (i : ℕ) (x : X) → i < length xs → slice_get (slice_set xs i x) i ≡ Some x
slice_get-set_same xs i x h =
    let within : i < length (slice_set xs i x) = omega (arith, length-set xs i x) in
    slice_get-get_or (slice_set xs i x) i x within ∙ ap Some (get_or-set_same xs i x x h)

-- and elsewhere
pub slice_get-set_other : {X : Type 0} (xs : List X) (i j : ℕ) (x : X) → j ≢ i → slice_get (slice_set xs i x) j ≡ slice_get xs j
slice_get-set_other {X} xs i j x ne = go (three_way j (length xs))
  where
    size : length (slice_set xs i x) ≡ length xs
    size = length-set xs i x

    past : length xs ≤ j → slice_get (slice_set xs i x) j ≡ slice_get xs j
    past h = let same_size = size in slice_get_past (slice_set xs i x) j (omega arith) ∙ sym (slice_get_past xs j h)

    go : (j < length xs) ⊎ ((j ≡ length xs) ⊎ (length xs < j)) → slice_get (slice_set xs i x) j ≡ slice_get xs j
    go (inl h) = let same_size = size in slice_get-get_or (slice_set xs i x) j x (omega arith) ∙ ap Some (get_or-set_other xs i j x x ne) ∙ sym (slice_get-get_or xs j x h)
    go (inr (inl h)) = past (omega arith)
    go (inr (inr h)) = past (omega arith)
