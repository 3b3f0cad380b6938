-- The law of an event, as computed and as defined.
use Rattle.std.proofs.Common.{◌≡◌, ◌≢◌, ℕ, suc, ◌+◌, ◌<◌, Bool, true, false, ◌||◌, ◌==◌, cond, List, [], ◌∷◌, length, Option, Some, None, ◌⊎◌, inl, inr, refl, sym, ap, subst, ◌∙◌, arith, eq-eqb, eqb-true, true≢false}
use Rattle.std.specs.Prelude.{slice_get}
use Rattle.std.specs.List.{list_any}
use Rattle.std.proofs.lemmas.Bool.{cases_eq, ne_eqb}
use Rattle.std.proofs.lemmas.Option.{slice_get_within}
use Rattle.std.proofs.lemmas.Map.Keys.{any_passes_from_place}
use Rattle.trace_laws.specs.Event.{Event}
use Rattle.trace_laws.specs.declared.event.Op.{Op}
use Rattle.trace_laws.specs.declared.event.Op.TheVariants.{Read, Write, Acquire, Release, Fork, Join}
use Rattle.trace_laws.specs.declared.builder.LawFault.{LawFault}
use Rattle.trace_laws.specs.declared.builder.LawFault.TheVariants as law
use Rattle.trace_laws.specs.Trace.{IsJoined, IsForked, HasStarted, MayFollow}
use Rattle.trace_laws.specs.Faults.{Built, Judges, OperationFault, BreaksFirst, IsRefusedFor}
use Rattle.trace_laws.proofs.Refusals.{refused_not_accepted}
use Rattle.trace_laws.proofs.Places.{event_of, op_from_event, thread_from_event, mapped_from}
use Rattle.std_text.specs.Law.{holder, Tells, is_fork_of, is_join_of, was_forked, is_joined, has_started, acquire_fault, release_fault, fork_fault, operation_fault, IsFirstBroken, ComputesLaws}

-- ---- what stands before an event

-- an element that passes a test, and its place
abbrev Passes : {X : Type 0} → (X → Bool) → List X → Type 0
Passes {X} test xs = (i : ℕ) × (x : X) × (slice_get xs i ≡ Some x) × (test x ≡ true)

-- the first element passes, or one of the others
passes_more : {X : Type 0} (test : X → Bool) (x : X) (xs : List X) (b : Bool) → test x ≡ b → (b || list_any test xs) ≡ true → (list_any test xs ≡ true → Passes test xs) → Passes test (x ∷ xs)
passes_more test x xs true is h more = (0, x, refl, is)
passes_more test x xs false is h more = let m = more h in (suc m.0, m.1, m.2, m.3)

-- where a test finds an element, the element has a place
place_of : {X : Type 0} (test : X → Bool) (xs : List X) → list_any test xs ≡ true → Passes test xs
place_of test [] h = absurd (true≢false (sym h))
place_of test (x ∷ xs) h = passes_more test x xs (test x) refl h (place_of test xs)

-- where it finds none, none passes
none_passes : {X : Type 0} (test : X → Bool) (xs : List X) (i : ℕ) (x : X) → list_any test xs ≡ false → slice_get xs i ≡ Some x → test x ≡ true → ⊥
none_passes test xs i x none at_i passes = true≢false (sym (any_passes_from_place test xs i x at_i passes) ∙ none)

-- a fork is told
fork_told : (u : ℕ) (o : Op) → is_fork_of u o ≡ true → o ≡ Fork u
fork_told u (Fork v) h = ap Fork (eqb-true v u h)
fork_told u (Join v) h = absurd (true≢false (sym h))
fork_told u (Read x) h = absurd (true≢false (sym h))
fork_told u (Write x) h = absurd (true≢false (sym h))
fork_told u (Acquire l) h = absurd (true≢false (sym h))
fork_told u (Release l) h = absurd (true≢false (sym h))

-- a join is told
join_told : (u : ℕ) (o : Op) → is_join_of u o ≡ true → o ≡ Join u
join_told u (Join v) h = ap Join (eqb-true v u h)
join_told u (Fork v) h = absurd (true≢false (sym h))
join_told u (Read x) h = absurd (true≢false (sym h))
join_told u (Write x) h = absurd (true≢false (sym h))
join_told u (Acquire l) h = absurd (true≢false (sym h))
join_told u (Release l) h = absurd (true≢false (sym h))

module _ (events : List Event) (u : ℕ) where
  -- a thread that is computed as forked is forked
  forked_is : was_forked events u ≡ true → IsForked events (length events) u
  forked_is h = let m = place_of (λ e. is_fork_of u e.op) events h in
      (m.0, slice_get_within events m.0 m.1 m.2, op_from_event events m.0 m.1 m.2 ∙ ap Some (fork_told u m.1.op m.3))

  -- and no other one
  forked_not : was_forked events u ≡ false → IsForked events (length events) u → ⊥
  forked_not none f = let e = event_of events f.0 (Fork u) f.2 in
      none_passes (λ e. is_fork_of u e.op) events f.0 e.0 none e.1 (subst (λ (o : Op). is_fork_of u o ≡ true) (sym e.2) (eq-eqb u u refl))

  -- a thread that is computed as joined is joined
  joined_is : is_joined events u ≡ true → IsJoined events (length events) u
  joined_is h = let m = place_of (λ e. is_join_of u e.op) events h in
      (m.0, slice_get_within events m.0 m.1 m.2, op_from_event events m.0 m.1 m.2 ∙ ap Some (join_told u m.1.op m.3))

  -- and no other one
  joined_not : is_joined events u ≡ false → IsJoined events (length events) u → ⊥
  joined_not none j = let e = event_of events j.0 (Join u) j.2 in
      none_passes (λ e. is_join_of u e.op) events j.0 e.0 none e.1 (subst (λ (o : Op). is_join_of u o ≡ true) (sym e.2) (eq-eqb u u refl))

  -- a thread that is computed as started has an event
  started_is : has_started events u ≡ true → HasStarted events (length events) u
  started_is h = let m = place_of (λ e. e.thread == u) events h in
      (m.0, slice_get_within events m.0 m.1 m.2, thread_from_event events m.0 m.1 m.2 ∙ ap Some (eqb-true m.1.thread u m.3))

  -- and no other one
  started_not : has_started events u ≡ false → HasStarted events (length events) u → ⊥
  started_not none s = let e = mapped_from (λ (x : Event). x.thread) (slice_get events s.0) u s.2 in
      none_passes (λ e. e.thread == u) events s.0 e.0 none e.1 (eq-eqb e.0.thread u e.2)

-- ---- the law of an operation

module _ (events : List Event) (t : ℕ) (tells : Tells events) where
  -- an acquire
  acquire_judged : (l : ℕ) (o : Option ℕ) → holder events l ≡ o → Judges events t (Acquire l) (acquire_fault t o)
  acquire_judged l None is = (λ u h. let held = (tells l u).1 h in cc, tt)
  acquire_judged l (Some u) is = at (cases_eq u t)
    where
      at : (u ≡ t) ⊎ (u ≢ t) → Judges events t (Acquire l) (acquire_fault t (Some u))
      at (inl same) = rw (eq-eqb u t same) ((tells l t).0 (is ∙ ap Some same))
      at (inr other) = rw (ne_eqb u t other) (other, (tells l u).0 is)

  -- a release
  release_judged : (l : ℕ) (o : Option ℕ) → holder events l ≡ o → Judges events t (Release l) (release_fault t o)
  release_judged l None is = λ h. let held = (tells l t).1 h in cc
  release_judged l (Some u) is = at (cases_eq u t)
    where
      at : (u ≡ t) ⊎ (u ≢ t) → Judges events t (Release l) (release_fault t (Some u))
      at (inl same) = rw (eq-eqb u t same) ((tells l t).0 (is ∙ ap Some same), tt)
      at (inr other) = rw (ne_eqb u t other) (λ h. let held = (tells l t).1 h in let same : u ≡ t = cc in other same)

  -- a fork
  fork_judged : (u : ℕ) → Judges events t (Fork u) (fork_fault events t u)
  fork_judged u = at (cases_eq u t)
    where
      late : (u ≢ t) → ¬ (IsJoined events (length events) u) → ¬ (IsForked events (length events) u) → (b : Bool) → has_started events u ≡ b
          → Judges events t (Fork u) (cond b (Some law.ForkLate) None)
      late other joined forked true is = (other, joined, forked, started_is events u is)
      late other joined forked false is = (tt, (other, joined, forked, started_not events u is))

      twice : (u ≢ t) → ¬ (IsJoined events (length events) u) → (b : Bool) → was_forked events u ≡ b
          → Judges events t (Fork u) (cond b (Some law.ForkTwice) (cond (has_started events u) (Some law.ForkLate) None))
      twice other joined true is = (other, joined, forked_is events u is)
      twice other joined false is = late other joined (forked_not events u is) (has_started events u) refl

      after : (u ≢ t) → (b : Bool) → is_joined events u ≡ b
          → Judges events t (Fork u) (cond b (Some law.AfterJoin) (cond (was_forked events u) (Some law.ForkTwice) (cond (has_started events u) (Some law.ForkLate) None)))
      after other true is = (other, joined_is events u is)
      after other false is = twice other (joined_not events u is) (was_forked events u) refl

      at : (u ≡ t) ⊎ (u ≢ t) → Judges events t (Fork u) (fork_fault events t u)
      at (inl same) = rw (eq-eqb u t same) same
      at (inr other) = rw (ne_eqb u t other) (after other (is_joined events u) refl)

  -- a join
  join_judged : (u : ℕ) → Judges events t (Join u) (operation_fault events t (Join u))
  join_judged u = at (cases_eq u t)
    where
      at : (u ≡ t) ⊎ (u ≢ t) → Judges events t (Join u) (operation_fault events t (Join u))
      at (inl same) = rw (eq-eqb u t same) same
      at (inr other) = rw (ne_eqb u t other) (tt, other)

  -- each operation
  pub judged : (o : Op) → Judges events t o (operation_fault events t o)
  judged (Acquire l) = acquire_judged l (holder events l) refl
  judged (Release l) = release_judged l (holder events l) refl
  judged (Fork u) = fork_judged u
  judged (Join u) = join_judged u
  judged (Read x) = (tt, tt)
  judged (Write x) = (tt, tt)

-- ---- the law of an event

-- an event whose thread was not joined breaks the law of its operation, or none
by_operation : (events : List Event) (e : Event) (o : Option LawFault) → ¬ (IsJoined events (length events) e.thread) → Judges events e.thread e.op o → IsFirstBroken events e o
by_operation events e None none h = record { not_joined = none; locks = h.0; threads = h.1 }
by_operation events e (Some law.AfterJoin) none h = inr h
by_operation events e (Some law.Full) none h = (none, h)
by_operation events e (Some law.Reentrant) none h = (none, h)
by_operation events e (Some (law.LockHeld u)) none h = (none, h)
by_operation events e (Some law.NotHeld) none h = (none, h)
by_operation events e (Some law.SelfThread) none h = (none, h)
by_operation events e (Some law.ForkTwice) none h = (none, h)
by_operation events e (Some law.ForkLate) none h = (none, h)

-- where the holders are computed rightly, so are the laws
pub computes_laws : (events : List Event) → Tells events → ComputesLaws events
computes_laws events tells e = by (is_joined events e.thread) refl
  where
    by : (b : Bool) → is_joined events e.thread ≡ b → IsFirstBroken events e (cond b (Some law.AfterJoin) (operation_fault events e.thread e.op))
    by true is = inl (joined_is events e.thread is)
    by false is = by_operation events e (operation_fault events e.thread e.op) (joined_not events e.thread is) (judged events e.thread tells e.op)

-- no operation breaks a law by which a builder is full
never_full : (events : List Event) (t : ℕ) (o : Op) → OperationFault events t o law.Full → ⊥
never_full events t (Acquire l) h = h
never_full events t (Release l) h = h
never_full events t (Fork u) h = h
never_full events t (Join u) h = h
never_full events t (Read x) h = h
never_full events t (Write x) h = h

-- a builder with room refuses an event for the law that it breaks first
pub refused_for : (built : Built) (e : Event) (f : LawFault) → length built.events < built.capacity → BreaksFirst built.events e f → IsRefusedFor built e f
refused_for built e law.Full room h = absurd (never_full built.events e.thread e.op h.1)
refused_for built e law.AfterJoin room h = (room, h)
refused_for built e law.Reentrant room h = (room, h)
refused_for built e (law.LockHeld u) room h = (room, h)
refused_for built e law.NotHeld room h = (room, h)
refused_for built e law.SelfThread room h = (room, h)
refused_for built e law.ForkTwice room h = (room, h)
refused_for built e law.ForkLate room h = (room, h)

-- an event that may follow breaks no law
pub none_broken : (events : List Event) (e : Event) → MayFollow events e → (o : Option LawFault) → IsFirstBroken events e o → o ≡ None
none_broken events e follows None broken = refl
none_broken events e follows (Some f) broken =
    let built : Built = record { events = events; capacity = length events + 1 } in
    absurd (refused_not_accepted built e f (refused_for built e f (omega arith) broken) (omega arith, follows))
