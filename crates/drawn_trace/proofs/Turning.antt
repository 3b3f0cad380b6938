-- The events of the turns so far, and what the threads hold after them.
use Rattle.std.proofs.Common.{◌≡◌, ◌≢◌, ℕ, zero, suc, ◌<◌, ◌%◌, true, true≢false, List, [], ◌∷◌, ◌++◌, length, Some, ◌⊎◌, inl, inr, refl, sym, ap, subst, ◌∙◌, arith, length-append, append_assoc, append-nil}
use Rattle.std.specs.Prelude.{◌↔◌, slice_get, slice_set}
use Rattle.std.proofs.Math.ListN.{length-set}
use Rattle.std.proofs.Math.Nat.{mod-lt}
use Rattle.std.proofs.lemmas.Bool.{cases_eq}
use Rattle.std.proofs.lemmas.Option.{slice_get_within}
use Rattle.rand_pcg.specs.Lcg.{Lcg}
use Rattle.trace_laws.specs.Event.{Event}
use Rattle.trace_laws.specs.declared.event.Op.{Op}
use Rattle.trace_laws.specs.declared.event.Op.TheVariants.{Read, Write, Acquire, Release, Fork, Join}
use Rattle.trace_laws.specs.Trace.{LockLaw, ThreadLaw, MayFollow, Lawful, IsJoined}
use Rattle.trace_laws.specs.Faults.{HoldsNow}
use Rattle.trace_laws.proofs.Places.{event_of, three_way, slice_get-append_left, slice_get-append_seam}
use Rattle.trace_laws.proofs.Growing.{Lawful-push, hold_cases, hold_keeps, hold_acquires}
use Rattle.trace_laws.proofs.Tables.{Lawful-nil}
use Rattle.drawn_trace.specs.declared.numbers.TheConstants.{THREADS, LOCKS, VARS}
use Rattle.drawn_trace.specs.declared.held.Held.{Held}
use Rattle.drawn_trace.specs.declared.held.Held.TheVariants.{Nothing}
use Rattle.drawn_trace.specs.Drawn.{holds_lock, locks_after, held_by, choose, words, DrawingState, first_state, event_at, after_operation, turn, events_from}
use Rattle.drawn_trace.proofs.Holding.{AreApart, IsLast, with_new, with_old, with_cases, with_apart, last_held, without_cases, without_old, without_apart, held_same, held_other, not_held}
use Rattle.drawn_trace.proofs.Choosing.{IsChosen, chosen}

-- ---- what is drawn

-- the number that an operation names is one of the drawn locks or variables, and there are no forks and joins
abbrev pub IsDrawn : Op → Type 0
IsDrawn (Read x) = x < VARS
IsDrawn (Write x) = x < VARS
IsDrawn (Acquire l) = l < LOCKS
IsDrawn (Release l) = l < LOCKS
IsDrawn (Fork u) = ⊥
IsDrawn (Join u) = ⊥

-- an event of a turn: its thread, its operation and its location, which is its place
pub record IsTurn (i : ℕ) (e : Event) : Type 0 where
  pub thread : e.thread < THREADS
  pub op : IsDrawn e.op
  pub location : e.loc ≡ i

-- the events so far are lawful, and the state says what they did
pub record Sound (front : List Event) (s : DrawingState) : Type 0 where
  pub threads : length s.held ≡ THREADS
  pub place : s.place ≡ length front
  pub lawful : Lawful front
  pub each : (i : ℕ) (e : Event) → slice_get front i ≡ Some e → IsTurn i e
  pub holds : (t l : ℕ) → (holds_lock (held_by s.held t) l ≡ true) ↔ HoldsNow front t l
  pub apart : (t : ℕ) → AreApart (held_by s.held t)

-- ---- one event more

module _ (front : List Event) (s : DrawingState) (sound : Sound front s) (t : ℕ) (thread : t < THREADS) (op : Op) (choice : IsChosen s.held (held_by s.held t) op) where
  -- what the thread holds
  abbrev own : Held
  own = held_by s.held t

  -- the event
  abbrev event : Event
  event = event_at t op s.place

  -- what each thread holds after it
  abbrev held : List Held
  held = slice_set s.held t (locks_after own op)

  -- a lock that is held is a drawn one
  held_is_drawn : (l : ℕ) → HoldsNow front t l → l < 8
  held_is_drawn l h =
      let found = event_of front h.since (Acquire l) h.acquired.op in
      subst IsDrawn found.2 (sound.each h.since found.0 found.1).op

  -- the operation is a drawn one
  drawn : (o : Op) → IsChosen s.held own o → IsDrawn o
  drawn (Read x) h = h
  drawn (Write x) h = h
  drawn (Acquire l) h = h.0
  drawn (Release l) h = held_is_drawn l ((sound.holds t l).0 (last_held own l h))
  drawn (Fork u) h = h
  drawn (Join u) h = h

  -- no thread was joined
  not_joined : (u : ℕ) → IsJoined front (length front) u → ⊥
  not_joined u joined =
      let found = event_of front joined.0 (Join u) joined.2 in
      subst IsDrawn found.2 (sound.each joined.0 found.0 found.1).op

  -- the law of locks
  lock_law : (o : Op) → IsChosen s.held own o → LockLaw front ◌<◌ (length front) t o
  lock_law (Read x) h = tt
  lock_law (Write x) h = tt
  lock_law (Acquire l) h = λ u holds. not_held s.held l u h.1 ((sound.holds u l).1 holds)
  lock_law (Release l) h = (sound.holds t l).0 (last_held own l h)
  lock_law (Fork u) h = absurd h
  lock_law (Join u) h = absurd h

  -- the law of threads
  thread_law : (o : Op) → IsChosen s.held own o → ThreadLaw front (length front) t o
  thread_law (Read x) h = tt
  thread_law (Write x) h = tt
  thread_law (Acquire l) h = tt
  thread_law (Release l) h = tt
  thread_law (Fork u) h = absurd h
  thread_law (Join u) h = absurd h

  -- the event may follow
  may_follow : MayFollow front event
  may_follow = record { not_joined = not_joined t; locks = lock_law op choice; threads = thread_law op choice }

  -- each event is one of a turn
  each_after : (i : ℕ) (e : Event) → slice_get (front ++ event ∷ []) i ≡ Some e → IsTurn i e
  each_after i e at_i = go (three_way i (length front))
    where
      go : (i < length front) ⊎ ((i ≡ length front) ⊎ (length front < i)) → IsTurn i e
      go (inl less) = sound.each i e (sym (slice_get-append_left front (event ∷ []) i less) ∙ at_i)
      go (inr (inl same)) =
          let seam : slice_get (front ++ event ∷ []) i ≡ Some event = ap (slice_get (front ++ event ∷ [])) same ∙ slice_get-append_seam front event in
          let is : event ≡ e = cc in
          subst (IsTurn i) is (record { thread = thread; op = drawn op choice; location = sound.place ∙ sym same })
      go (inr (inr more)) =
          let within : i < length (front ++ event ∷ []) = slice_get_within (front ++ event ∷ []) i e at_i in
          absurd (omega (arith, length-append front (event ∷ [])))

  -- what the own thread holds after it
  module _ (l : ℕ) where
    -- an operation that is neither an acquire nor a release changes nothing
    unchanged : (op ≡ Acquire l → ⊥) → (op ≡ Release l → ⊥) → (holds_lock own l ≡ true) ↔ HoldsNow (front ++ event ∷ []) t l
    unchanged no_acquire no_release = (λ h. hold_keeps front event t l ((sound.holds t l).0 h) (λ same released. no_release released), λ h. go (hold_cases front event t l h))
      where
        go : (HoldsNow front t l × ((event.thread ≡ t) → (event.op ≡ Release l) → ⊥)) ⊎ ((event.thread ≡ t) × (event.op ≡ Acquire l)) → holds_lock own l ≡ true
        go (inl old) = (sound.holds t l).1 old.0
        go (inr new) = absurd (no_acquire new.1)

    -- an acquire adds its lock
    with_acquired : (k : ℕ) → op ≡ Acquire k → IsChosen s.held own (Acquire k) → (holds_lock (locks_after own (Acquire k)) l ≡ true) ↔ HoldsNow (front ++ event ∷ []) t l
    with_acquired k is h = (λ now. to (with_cases own k l now), λ now. go (hold_cases front event t l now))
      where
        to : (holds_lock own l ≡ true) ⊎ (k ≡ l) → HoldsNow (front ++ event ∷ []) t l
        to (inl old) = hold_keeps front event t l ((sound.holds t l).0 old) (λ same released. let no = released in cc)
        to (inr new) = hold_acquires front event l (is ∙ ap Acquire new)

        go : (HoldsNow front t l × ((event.thread ≡ t) → (event.op ≡ Release l) → ⊥)) ⊎ ((event.thread ≡ t) × (event.op ≡ Acquire l)) → holds_lock (locks_after own (Acquire k)) l ≡ true
        go (inl old) = with_old own k l ((sound.holds t l).1 old.0)
        go (inr new) =
            let acquires : op ≡ Acquire l = new.1 in
            let same : k ≡ l = cc in
            subst (λ (m : ℕ). holds_lock (locks_after own (Acquire k)) m ≡ true) same (with_new own k h.2)

    -- a release takes the last one away
    without_released : (k : ℕ) → op ≡ Release k → IsLast own k → (holds_lock (locks_after own (Release k)) l ≡ true) ↔ HoldsNow (front ++ event ∷ []) t l
    without_released k is last = (λ now. to (without_cases own k l last (sound.apart t) now), λ now. go (hold_cases front event t l now))
      where
        to : (holds_lock own l ≡ true) × (k ≢ l) → HoldsNow (front ++ event ∷ []) t l
        to old = hold_keeps front event t l ((sound.holds t l).0 old.0) (λ same released. let releases : op ≡ Release l = released in let equal : k ≡ l = cc in old.1 equal)

        go : (HoldsNow front t l × ((event.thread ≡ t) → (event.op ≡ Release l) → ⊥)) ⊎ ((event.thread ≡ t) × (event.op ≡ Acquire l)) → holds_lock (locks_after own (Release k)) l ≡ true
        go (inl old) = without_old own k l last ((sound.holds t l).1 old.0) (λ same. old.1 refl (is ∙ ap Release same))
        go (inr new) = let acquires : op ≡ Acquire l = new.1 in absurd (cc)

    -- by operation
    own_holds : (o : Op) → op ≡ o → IsChosen s.held own o → (holds_lock (locks_after own o) l ≡ true) ↔ HoldsNow (front ++ event ∷ []) t l
    own_holds (Read x) is h = unchanged (λ other. cc) (λ other. cc)
    own_holds (Write x) is h = unchanged (λ other. cc) (λ other. cc)
    own_holds (Acquire k) is h = with_acquired k is h
    own_holds (Release k) is h = without_released k is h
    own_holds (Fork u) is h = absurd h
    own_holds (Join u) is h = absurd h

  -- what another thread holds stays
  other_after : (u l : ℕ) → u ≢ t → (holds_lock (held_by s.held u) l ≡ true) ↔ HoldsNow (front ++ event ∷ []) u l
  other_after u l other = (λ h. hold_keeps front event u l ((sound.holds u l).0 h) (λ same released. other (sym same)), λ h. go (hold_cases front event u l h))
    where
      go : (HoldsNow front u l × ((event.thread ≡ u) → (event.op ≡ Release l) → ⊥)) ⊎ ((event.thread ≡ u) × (event.op ≡ Acquire l)) → holds_lock (held_by s.held u) l ≡ true
      go (inl old) = (sound.holds u l).1 old.0
      go (inr new) = absurd (other (sym new.0))

  -- what the thread holds is what the table says
  own_is : held_by held t ≡ locks_after own op
  own_is = let size = sound.threads in held_same s.held t (locks_after own op) (omega arith)

  -- what each thread holds
  holds_after : (u l : ℕ) → (holds_lock (held_by held u) l ≡ true) ↔ HoldsNow (front ++ event ∷ []) u l
  holds_after u l = go (cases_eq u t)
    where
      go : (u ≡ t) ⊎ (u ≢ t) → (holds_lock (held_by held u) l ≡ true) ↔ HoldsNow (front ++ event ∷ []) u l
      go (inl same) = subst (λ (v : ℕ). (holds_lock (held_by held v) l ≡ true) ↔ HoldsNow (front ++ event ∷ []) v l) (sym same)
          (subst (λ (locks : Held). (holds_lock locks l ≡ true) ↔ HoldsNow (front ++ event ∷ []) t l) (sym own_is) (own_holds l op refl choice))
      go (inr other) = subst (λ (locks : Held). (holds_lock locks l ≡ true) ↔ HoldsNow (front ++ event ∷ []) u l) (sym (held_other s.held t u (locks_after own op) other)) (other_after u l other)

  -- no thread holds a lock twice
  own_apart : (o : Op) → IsChosen s.held own o → AreApart (locks_after own o)
  own_apart (Read x) h = sound.apart t
  own_apart (Write x) h = sound.apart t
  own_apart (Acquire l) h = with_apart own l (sound.apart t) (not_held s.held l t h.1)
  own_apart (Release l) h = without_apart own
  own_apart (Fork u) h = absurd h
  own_apart (Join u) h = absurd h

  -- nor does any thread
  apart_after : (u : ℕ) → AreApart (held_by held u)
  apart_after u = go (cases_eq u t)
    where
      go : (u ≡ t) ⊎ (u ≢ t) → AreApart (held_by held u)
      go (inl same) = subst (λ (v : ℕ). AreApart (held_by held v)) (sym same) (subst AreApart (sym own_is) (own_apart op choice))
      go (inr other) = subst AreApart (sym (held_other s.held t u (locks_after own op) other)) (sound.apart u)

  -- the state after it says what was done
  pub sound_after : (generator : Lcg) → Sound (front ++ event ∷ []) (after_operation s generator t op)
  sound_after generator = record {
    threads = length-set s.held t (locks_after own op) ∙ sound.threads;
    place = let place = sound.place in omega (arith, length-append front (event ∷ []));
    lawful = Lawful-push front event sound.lawful may_follow;
    each = each_after;
    holds = holds_after;
    apart = apart_after;
  }

-- ---- turns

-- so it is after a turn
pub sound_turn : (front : List Event) (s : DrawingState) → Sound front s → Sound (front ++ (turn s).0 ∷ []) (turn s).1
unfolding turn
sound_turn front s sound =
    let drawn = words s.generator in
    let t : ℕ = drawn.0.thread % THREADS in
    sound_after front s sound t (mod-lt drawn.0.thread (omega arith)) (choose s.held (held_by s.held t) (drawn.0.action % 8) drawn.0.object)
    (chosen s.held (held_by s.held t) drawn.0.object (drawn.0.action % 8)) drawn.1

-- before the first turn no thread holds a lock
nothing_held : (seed t : ℕ) → held_by (first_state seed).held t ≡ Nothing
nothing_held seed zero = refl
nothing_held seed (suc zero) = refl
nothing_held seed (suc (suc zero)) = refl
nothing_held seed (suc (suc (suc zero))) = refl
nothing_held seed (suc (suc (suc (suc t)))) = refl

-- so the state says what was done
pub sound_first : (seed : ℕ) → Sound [] (first_state seed)
sound_first seed = record {
  threads = refl;
  place = refl;
  lawful = Lawful-nil;
  each = λ i e at_i. cc;
  holds = λ t l. (λ h. absurd (true≢false (sym (subst (λ (locks : Held). holds_lock locks l ≡ true) (nothing_held seed t) h))), λ h. absurd (let before = h.before in omega arith));
  apart = λ t. subst AreApart (sym (nothing_held seed t)) tt;
}

-- after any number of turns
pub sound_from : (n : ℕ) (front : List Event) (s : DrawingState) → Sound front s → (last : DrawingState) × Sound (front ++ events_from s n) last
sound_from zero front s sound = (s, subst (λ (events : List Event). Sound events s) (sym (append-nil front)) sound)
sound_from (suc n) front s sound =
    let more = sound_from n (front ++ (turn s).0 ∷ []) (turn s).1 (sound_turn front s sound) in
    (more.0, subst (λ (events : List Event). Sound events more.0) (append_assoc front ((turn s).0 ∷ []) (events_from (turn s).1 n)) more.1)
