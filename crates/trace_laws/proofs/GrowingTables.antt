-- The tables of a builder after one event more.
use Rattle.std.proofs.Common.{◌≡◌, ◌≢◌, ℕ, ◌<◌, Bool, true, List, [], ◌∷◌, ◌++◌, length, Option, Some, None, ◌⊎◌, inl, inr, refl, sym, ap, subst, ◌∙◌, arith}
use Rattle.std.specs.Prelude.{slice_get, slice_set, ◌↔◌}
use Rattle.std.proofs.Math.ListN.{length-set}
use Rattle.sp_base.specs.declared.limits.TheConstants.{MAX_LOCKS, MAX_THREADS}
use Rattle.trace_laws.specs.Event.{Event}
use Rattle.trace_laws.specs.declared.event.Op.{Op}
use Rattle.trace_laws.specs.declared.event.Op.TheVariants.{Read, Write, Acquire, Release, Fork, Join}
use Rattle.trace_laws.specs.Trace.{op_at, LockLaw, MayFollow, Lawful, IsForked, IsJoined, HasStarted}
use Rattle.trace_laws.specs.Faults.{HoldsNow}
use Rattle.trace_laws.specs.Building.{Tracks, owners_after, joined_after, forked_after}
use Rattle.trace_laws.proofs.Places.{three_way}
use Rattle.trace_laws.proofs.Growing.{one_holder, hold_cases, hold_keeps, hold_acquires, op_cases, op_keeps, op_new, started_cases, started_keeps, started_new, slice_get-set_same, slice_get-set_other}

-- equal or not
same_or_not : (a b : ℕ) → (a ≡ b) ⊎ (a ≢ b)
same_or_not a b = go (three_way a b)
  where
    go : (a < b) ⊎ ((a ≡ b) ⊎ (b < a)) → (a ≡ b) ⊎ (a ≢ b)
    go (inl h) = inr (λ e. omega arith)
    go (inr (inl h)) = inl h
    go (inr (inr h)) = inr (λ e. omega arith)

-- the tables after the event track the trace with it
module _ (trace : List Event) (e : Event) (owners : List (Option ℕ)) (joined forked started : List Bool) (lawful : Lawful trace) (laws : MayFollow trace e) (tracks : Tracks trace owners joined forked started) where
  -- where the event neither acquires nor releases the lock
  owner_stays : (l t : ℕ) → l < MAX_LOCKS → (e.op ≡ Acquire l → ⊥) → (e.op ≡ Release l → ⊥) → (slice_get owners l ≡ Some (Some t)) ↔ HoldsNow (trace ++ e ∷ []) t l
  owner_stays l t within no_acquire no_release = (only, if)
    where
      only : slice_get owners l ≡ Some (Some t) → HoldsNow (trace ++ e ∷ []) t l
      only h = hold_keeps trace e t l ((tracks.owner l t within).0 h) (λ same releases. no_release releases)

      if : HoldsNow (trace ++ e ∷ []) t l → slice_get owners l ≡ Some (Some t)
      if h = from (hold_cases trace e t l h)
        where
          from : (HoldsNow trace t l × ((e.thread ≡ t) → (e.op ≡ Release l) → ⊥)) ⊎ ((e.thread ≡ t) × (e.op ≡ Acquire l)) → slice_get owners l ≡ Some (Some t)
          from (inl old) = (tracks.owner l t within).1 old.0
          from (inr new) = absurd (no_acquire new.1)

  -- where the event acquires the lock
  owner_acquired : (l t : ℕ) → l < MAX_LOCKS → e.op ≡ Acquire l → (slice_get (slice_set owners l (Some e.thread)) l ≡ Some (Some t)) ↔ HoldsNow (trace ++ e ∷ []) t l
  owner_acquired l t within is = (only, if)
    where
      written : slice_get (slice_set owners l (Some e.thread)) l ≡ Some (Some e.thread)
      written = slice_get-set_same owners l (Some e.thread) (let size = tracks.locks in omega arith)

      only : slice_get (slice_set owners l (Some e.thread)) l ≡ Some (Some t) → HoldsNow (trace ++ e ∷ []) t l
      only h = let w = written in let same : e.thread ≡ t = cc in subst (λ (u : ℕ). HoldsNow (trace ++ e ∷ []) u l) same (hold_acquires trace e l is)

      free : (u : ℕ) → HoldsNow trace u l → ⊥
      free = subst (λ (o : Op). LockLaw trace ◌<◌ (length trace) e.thread o) is laws.locks

      if : HoldsNow (trace ++ e ∷ []) t l → slice_get (slice_set owners l (Some e.thread)) l ≡ Some (Some t)
      if h = from (hold_cases trace e t l h)
        where
          from : (HoldsNow trace t l × ((e.thread ≡ t) → (e.op ≡ Release l) → ⊥)) ⊎ ((e.thread ≡ t) × (e.op ≡ Acquire l)) → slice_get (slice_set owners l (Some e.thread)) l ≡ Some (Some t)
          from (inl old) = absurd (free t old.0)
          from (inr new) = written ∙ ap (λ (u : ℕ). Some (Some u)) new.0

  -- where the event releases the lock
  owner_released : (l t : ℕ) → l < MAX_LOCKS → e.op ≡ Release l → (slice_get (slice_set owners l None) l ≡ Some (Some t)) ↔ HoldsNow (trace ++ e ∷ []) t l
  owner_released l t within is = (only, if)
    where
      written : slice_get (slice_set owners l None) l ≡ Some None
      written = slice_get-set_same owners l None (let size = tracks.locks in omega arith)

      only : slice_get (slice_set owners l None) l ≡ Some (Some t) → HoldsNow (trace ++ e ∷ []) t l
      only h = let w = written in cc

      own : HoldsNow trace e.thread l
      own = subst (λ (o : Op). LockLaw trace ◌<◌ (length trace) e.thread o) is laws.locks

      if : HoldsNow (trace ++ e ∷ []) t l → slice_get (slice_set owners l None) l ≡ Some (Some t)
      if h = from (hold_cases trace e t l h)
        where
          from : (HoldsNow trace t l × ((e.thread ≡ t) → (e.op ≡ Release l) → ⊥)) ⊎ ((e.thread ≡ t) × (e.op ≡ Acquire l)) → slice_get (slice_set owners l None) l ≡ Some (Some t)
          from (inl old) = absurd (old.1 (one_holder trace lawful (length trace) e.thread t l own old.0) is)
          from (inr new) = let n = new.1 in cc

  -- the owner of each lock, whatever the event
  owner_pushed : (l t : ℕ) → l < MAX_LOCKS → (slice_get (owners_after owners e.thread e.op) l ≡ Some (Some t)) ↔ HoldsNow (trace ++ e ∷ []) t l
  owner_pushed l t within = go e.op refl
    where
      acquired : (k : ℕ) → e.op ≡ Acquire k → (k ≡ l) ⊎ (k ≢ l) → (slice_get (slice_set owners k (Some e.thread)) l ≡ Some (Some t)) ↔ HoldsNow (trace ++ e ∷ []) t l
      acquired k is (inl same) = rw same (owner_acquired l t within (is ∙ ap Acquire same))
      acquired k is (inr other) = rw (slice_get-set_other owners k l (Some e.thread) (λ q. other (sym q))) (owner_stays l t within (λ h. let same : k ≡ l = cc in other same) (λ h. cc))

      released : (k : ℕ) → e.op ≡ Release k → (k ≡ l) ⊎ (k ≢ l) → (slice_get (slice_set owners k None) l ≡ Some (Some t)) ↔ HoldsNow (trace ++ e ∷ []) t l
      released k is (inl same) = rw same (owner_released l t within (is ∙ ap Release same))
      released k is (inr other) = rw (slice_get-set_other owners k l None (λ q. other (sym q))) (owner_stays l t within (λ h. cc) (λ h. let same : k ≡ l = cc in other same))

      go : (o : Op) → e.op ≡ o → (slice_get (owners_after owners e.thread o) l ≡ Some (Some t)) ↔ HoldsNow (trace ++ e ∷ []) t l
      go (Acquire k) is = acquired k is (same_or_not k l)
      go (Release k) is = released k is (same_or_not k l)
      go (Read x) is = owner_stays l t within (λ h. cc) (λ h. cc)
      go (Write x) is = owner_stays l t within (λ h. cc) (λ h. cc)
      go (Fork u) is = owner_stays l t within (λ h. cc) (λ h. cc)
      go (Join u) is = owner_stays l t within (λ h. cc) (λ h. cc)

  -- a flag of an operation, where the event is another operation and where it is this one
  flag_stays : (flags : List Bool) (u : ℕ) (o : Op) → (slice_get flags u ≡ Some true) ↔ ((i : ℕ) × (i < length trace) × (op_at trace i ≡ Some o)) → (e.op ≡ o → ⊥) → (slice_get flags u ≡ Some true) ↔ ((i : ℕ) × (i < length (trace ++ e ∷ [])) × (op_at (trace ++ e ∷ []) i ≡ Some o))
  flag_stays flags u o tells differs = (λ h. op_keeps trace e o (tells.0 h), λ h. from (op_cases trace e o h))
    where
      from : ((i : ℕ) × (i < length trace) × (op_at trace i ≡ Some o)) ⊎ (e.op ≡ o) → slice_get flags u ≡ Some true
      from (inl old) = tells.1 old
      from (inr new) = absurd (differs new)

  -- and where the event is this operation
  flag_written : (flags : List Bool) (u : ℕ) (o : Op) → u < length flags → e.op ≡ o → (slice_get (slice_set flags u true) u ≡ Some true) ↔ ((i : ℕ) × (i < length (trace ++ e ∷ [])) × (op_at (trace ++ e ∷ []) i ≡ Some o))
  flag_written flags u o within is = (λ h. op_new trace e o is, λ h. slice_get-set_same flags u true within)

  -- the mark of each joined thread, whatever the event
  joined_pushed : (u : ℕ) → u < MAX_THREADS → (slice_get (joined_after joined e.op) u ≡ Some true) ↔ IsJoined (trace ++ e ∷ []) (length (trace ++ e ∷ [])) u
  joined_pushed u within = go e.op refl
    where
      stays : (e.op ≡ Join u → ⊥) → (slice_get joined u ≡ Some true) ↔ IsJoined (trace ++ e ∷ []) (length (trace ++ e ∷ [])) u
      stays differs = flag_stays joined u (Join u) (tracks.joins u within) differs

      named : (k : ℕ) → e.op ≡ Join k → (k ≡ u) ⊎ (k ≢ u) → (slice_get (slice_set joined k true) u ≡ Some true) ↔ IsJoined (trace ++ e ∷ []) (length (trace ++ e ∷ [])) u
      named k is (inl same) = rw same (flag_written joined u (Join u) (let size = tracks.joined_threads in omega arith) (is ∙ ap Join same))
      named k is (inr other) = rw (slice_get-set_other joined k u true (λ q. other (sym q))) (stays (λ h. let same : k ≡ u = cc in other same))

      go : (o : Op) → e.op ≡ o → (slice_get (joined_after joined o) u ≡ Some true) ↔ IsJoined (trace ++ e ∷ []) (length (trace ++ e ∷ [])) u
      go (Join k) is = named k is (same_or_not k u)
      go (Fork k) is = stays (λ h. cc)
      go (Acquire k) is = stays (λ h. cc)
      go (Release k) is = stays (λ h. cc)
      go (Read x) is = stays (λ h. cc)
      go (Write x) is = stays (λ h. cc)

  -- the mark of each forked thread, whatever the event
  forked_pushed : (u : ℕ) → u < MAX_THREADS → (slice_get (forked_after forked e.op) u ≡ Some true) ↔ IsForked (trace ++ e ∷ []) (length (trace ++ e ∷ [])) u
  forked_pushed u within = go e.op refl
    where
      stays : (e.op ≡ Fork u → ⊥) → (slice_get forked u ≡ Some true) ↔ IsForked (trace ++ e ∷ []) (length (trace ++ e ∷ [])) u
      stays differs = flag_stays forked u (Fork u) (tracks.forks u within) differs

      named : (k : ℕ) → e.op ≡ Fork k → (k ≡ u) ⊎ (k ≢ u) → (slice_get (slice_set forked k true) u ≡ Some true) ↔ IsForked (trace ++ e ∷ []) (length (trace ++ e ∷ [])) u
      named k is (inl same) = rw same (flag_written forked u (Fork u) (let size = tracks.forked_threads in omega arith) (is ∙ ap Fork same))
      named k is (inr other) = rw (slice_get-set_other forked k u true (λ q. other (sym q))) (stays (λ h. let same : k ≡ u = cc in other same))

      go : (o : Op) → e.op ≡ o → (slice_get (forked_after forked o) u ≡ Some true) ↔ IsForked (trace ++ e ∷ []) (length (trace ++ e ∷ [])) u
      go (Fork k) is = named k is (same_or_not k u)
      go (Join k) is = stays (λ h. cc)
      go (Acquire k) is = stays (λ h. cc)
      go (Release k) is = stays (λ h. cc)
      go (Read x) is = stays (λ h. cc)
      go (Write x) is = stays (λ h. cc)

  -- the mark of each thread that has an event
  started_pushed : (u : ℕ) → u < MAX_THREADS → (slice_get (slice_set started e.thread true) u ≡ Some true) ↔ HasStarted (trace ++ e ∷ []) (length (trace ++ e ∷ [])) u
  started_pushed u within = go (same_or_not e.thread u)
    where
      go : (e.thread ≡ u) ⊎ (e.thread ≢ u) → (slice_get (slice_set started e.thread true) u ≡ Some true) ↔ HasStarted (trace ++ e ∷ []) (length (trace ++ e ∷ [])) u
      go (inl same) = (
        λ h. subst (λ (k : ℕ). HasStarted (trace ++ e ∷ []) (length (trace ++ e ∷ [])) k) same (started_new trace e),
        λ h. subst (λ (k : ℕ). slice_get (slice_set started k true) u ≡ Some true) (sym same) (slice_get-set_same started u true (let sizes = tracks.started_threads in omega arith)),
      )
      go (inr other) = rw (slice_get-set_other started e.thread u true (λ q. other (sym q))) (λ h. started_keeps trace e u ((tracks.starts u within).0 h), λ h. from (started_cases trace e u h))
        where
          from : HasStarted trace (length trace) u ⊎ (e.thread ≡ u) → slice_get started u ≡ Some true
          from (inl old) = (tracks.starts u within).1 old
          from (inr new) = absurd (other new)

  -- the table of owners keeps its length
  owners_size : length (owners_after owners e.thread e.op) ≡ MAX_LOCKS
  owners_size = go e.op
    where
      go : (o : Op) → length (owners_after owners e.thread o) ≡ MAX_LOCKS
      go (Acquire k) = length-set owners k (Some e.thread) ∙ tracks.locks
      go (Release k) = length-set owners k None ∙ tracks.locks
      go _ = tracks.locks

  -- the marks of joined threads keep theirs
  joined_size : length (joined_after joined e.op) ≡ MAX_THREADS
  joined_size = go e.op
    where
      go : (o : Op) → length (joined_after joined o) ≡ MAX_THREADS
      go (Join k) = length-set joined k true ∙ tracks.joined_threads
      go _ = tracks.joined_threads

  -- the marks of forked threads keep theirs
  forked_size : length (forked_after forked e.op) ≡ MAX_THREADS
  forked_size = go e.op
    where
      go : (o : Op) → length (forked_after forked o) ≡ MAX_THREADS
      go (Fork k) = length-set forked k true ∙ tracks.forked_threads
      go _ = tracks.forked_threads

  -- after the event the tables track the trace with it
  pub Tracks-push : Tracks (trace ++ e ∷ []) (owners_after owners e.thread e.op) (joined_after joined e.op) (forked_after forked e.op) (slice_set started e.thread true)
  Tracks-push = record {
    locks = owners_size;
    joined_threads = joined_size;
    forked_threads = forked_size;
    started_threads = length-set started e.thread true ∙ tracks.started_threads;
    owner = owner_pushed;
    joins = joined_pushed;
    forks = forked_pushed;
    starts = started_pushed;
  }
