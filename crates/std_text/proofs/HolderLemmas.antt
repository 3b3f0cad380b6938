-- The holders of locks, as computed and as defined.
use Rattle.std.proofs.Common.{◌≡◌, ◌≢◌, ℕ, ◌<◌, List, [], ◌∷◌, ◌++◌, length, Option, Some, None, ◌⊎◌, inl, inr, refl, ap, subst, ◌∙◌, arith, eq-eqb}
use Rattle.std.specs.Prelude.{◌↔◌}
use Rattle.std.proofs.lemmas.Bool.{cases_eq, ne_eqb}
use Rattle.trace_laws.specs.Event.{Event}
use Rattle.trace_laws.specs.declared.event.Op.{Op}
use Rattle.trace_laws.specs.declared.event.Op.TheVariants.{Read, Write, Acquire, Release, Fork, Join}
use Rattle.trace_laws.specs.Trace.{LockLaw}
use Rattle.trace_laws.specs.Faults.{HoldsNow}
use Rattle.trace_laws.proofs.Growing.{hold_cases, hold_keeps, hold_acquires}
use Rattle.std_text.specs.Law.{held_after, holder_from, holder, Tells}

-- no thread
abbrev nobody : Option ℕ
nobody = None

-- the holder after one event more
holder_push : (l : ℕ) (held : Option ℕ) (events : List Event) (e : Event) → holder_from l held (events ++ e ∷ []) ≡ held_after l (holder_from l held events) e.thread e.op
holder_push l held [] e = refl
holder_push l held (d ∷ events) e = holder_push l (held_after l held d.thread d.op) events e

-- nobody holds a lock at first
pub tells_none : Tells []
tells_none l t = (λ h. cc, λ h. absurd (let before = h.before in omega arith))

-- one event more
module _ (trace : List Event) (e : Event) (meets : LockLaw trace ◌<◌ (length trace) e.thread e.op) (tells : Tells trace) (l t : ℕ) where
  -- an event that neither acquires nor releases the lock leaves its holder
  stays : (e.op ≡ Acquire l → ⊥) → (e.op ≡ Release l → ⊥) → (holder trace l ≡ Some t) ↔ HoldsNow (trace ++ e ∷ []) t l
  stays no_acquire no_release = (λ h. hold_keeps trace e t l ((tells l t).0 h) (λ same releases. no_release releases), λ h. from (hold_cases trace e t l h))
    where
      from : (HoldsNow trace t l × ((e.thread ≡ t) → (e.op ≡ Release l) → ⊥)) ⊎ ((e.thread ≡ t) × (e.op ≡ Acquire l)) → holder trace l ≡ Some t
      from (inl old) = (tells l t).1 old.0
      from (inr new) = absurd (no_acquire new.1)

  -- after an acquire its thread is the holder
  acquires : e.op ≡ Acquire l → (Some e.thread ≡ Some t) ↔ HoldsNow (trace ++ e ∷ []) t l
  acquires is = (λ h. let same : e.thread ≡ t = cc in subst (λ (u : ℕ). HoldsNow (trace ++ e ∷ []) u l) same (hold_acquires trace e l is), λ h. from (hold_cases trace e t l h))
    where
      free : (u : ℕ) → HoldsNow trace u l → ⊥
      free = subst (λ (o : Op). LockLaw trace ◌<◌ (length trace) e.thread o) is meets

      from : (HoldsNow trace t l × ((e.thread ≡ t) → (e.op ≡ Release l) → ⊥)) ⊎ ((e.thread ≡ t) × (e.op ≡ Acquire l)) → Some e.thread ≡ Some t
      from (inl old) = absurd (free t old.0)
      from (inr new) = ap Some new.0

  -- after a release nobody holds the lock
  releases : e.op ≡ Release l → (nobody ≡ Some t) ↔ HoldsNow (trace ++ e ∷ []) t l
  releases is = (λ h. cc, λ h. from (hold_cases trace e t l h))
    where
      own : holder trace l ≡ Some e.thread
      own = (tells l e.thread).1 (subst (λ (o : Op). LockLaw trace ◌<◌ (length trace) e.thread o) is meets)

      from : (HoldsNow trace t l × ((e.thread ≡ t) → (e.op ≡ Release l) → ⊥)) ⊎ ((e.thread ≡ t) × (e.op ≡ Acquire l)) → nobody ≡ Some t
      from (inl old) = let mine = own in let theirs = (tells l t).1 old.0 in let same : e.thread ≡ t = cc in absurd (old.1 same is)
      from (inr new) = let acquires_it = new.1 in cc

  -- what is computed after the event is who holds the lock then
  after : (o : Op) → e.op ≡ o → (held_after l (holder trace l) e.thread o ≡ Some t) ↔ HoldsNow (trace ++ e ∷ []) t l
  after (Acquire k) is = at (cases_eq k l)
    where
      at : (k ≡ l) ⊎ (k ≢ l) → (held_after l (holder trace l) e.thread (Acquire k) ≡ Some t) ↔ HoldsNow (trace ++ e ∷ []) t l
      at (inl same) = rw (eq-eqb k l same) (acquires (is ∙ ap Acquire same))
      at (inr other) = rw (ne_eqb k l other) (stays (λ h. let same : k ≡ l = cc in other same) (λ h. cc))
  after (Release k) is = at (cases_eq k l)
    where
      at : (k ≡ l) ⊎ (k ≢ l) → (held_after l (holder trace l) e.thread (Release k) ≡ Some t) ↔ HoldsNow (trace ++ e ∷ []) t l
      at (inl same) = rw (eq-eqb k l same) (releases (is ∙ ap Release same))
      at (inr other) = rw (ne_eqb k l other) (stays (λ h. cc) (λ h. let same : k ≡ l = cc in other same))
  after (Read x) is = stays (λ h. cc) (λ h. cc)
  after (Write x) is = stays (λ h. cc) (λ h. cc)
  after (Fork u) is = stays (λ h. cc) (λ h. cc)
  after (Join u) is = stays (λ h. cc) (λ h. cc)

-- so the holders are computed rightly after a lawful event more
pub tells_push : (trace : List Event) (e : Event) → LockLaw trace ◌<◌ (length trace) e.thread e.op → Tells trace → Tells (trace ++ e ∷ [])
tells_push trace e meets tells l t = rw (holder_push l None trace e) (after trace e meets tells l t e.op refl)
