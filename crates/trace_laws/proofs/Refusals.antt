-- Which law an event breaks first: one at most, and none where it may follow.
use Rattle.std.proofs.Common.{◌≡◌, ◌≢◌, ℕ, ◌<◌, List, length, ◌⊎◌, inl, inr, refl, sym, ap, subst, ◌∙◌, arith}
use Rattle.std.specs.Prelude.{◌↔◌, Result, Err}
use Rattle.trace_laws.specs.Event.{Event}
use Rattle.trace_laws.specs.declared.event.Op.{Op}
use Rattle.trace_laws.specs.declared.event.Op.TheVariants.{Read, Write, Acquire, Release, Fork, Join}
use Rattle.trace_laws.specs.declared.builder.LawFault.{LawFault}
use Rattle.trace_laws.specs.declared.builder.LawFault.TheVariants.{Full, AfterJoin, Reentrant, LockHeld, NotHeld, SelfThread, ForkTwice, ForkLate}
use Rattle.trace_laws.specs.Trace.{LockLaw, ThreadLaw, MayFollow, Lawful, IsJoined}
use Rattle.trace_laws.specs.Faults.{Built, HoldsNow, OperationFault, BreaksFirst, IsRefusedFor}
use Rattle.trace_laws.proofs.Growing.{one_holder}

-- an acquire has no fault where the lock is free
acquire_breaks : (trace : List Event) (t l : ℕ) (f : LawFault) → OperationFault trace t (Acquire l) f → ((u : ℕ) → HoldsNow trace u l → ⊥) → ⊥
acquire_breaks trace t l Reentrant h free = free t h
acquire_breaks trace t l (LockHeld u) h free = free u h.1
acquire_breaks trace t l _ h free = h

-- a release has none where its thread holds the lock
release_breaks : (trace : List Event) (t l : ℕ) (f : LawFault) → OperationFault trace t (Release l) f → HoldsNow trace t l → ⊥
release_breaks trace t l NotHeld h held = h held
release_breaks trace t l _ h held = h

-- a fork has none where it meets the law of threads
fork_breaks : (trace : List Event) (t u : ℕ) (f : LawFault) → OperationFault trace t (Fork u) f → ThreadLaw trace (length trace) t (Fork u) → ⊥
fork_breaks trace t u SelfThread h law = law.0 h
fork_breaks trace t u AfterJoin h law = law.1 h.1
fork_breaks trace t u ForkTwice h law = law.2 h.2
fork_breaks trace t u ForkLate h law = law.3 h.3
fork_breaks trace t u _ h law = h

-- a join has none where it names another thread
join_breaks : (trace : List Event) (t u : ℕ) (f : LawFault) → OperationFault trace t (Join u) f → (u ≢ t) → ⊥
join_breaks trace t u SelfThread h law = law h
join_breaks trace t u _ h law = h

-- a read has none
none_fails : (trace : List Event) (t x : ℕ) (f : LawFault) → OperationFault trace t (Read x) f → ⊥
none_fails trace t x Full h = h
none_fails trace t x _ h = h

-- a write has none
none_fails_write : (trace : List Event) (t x : ℕ) (f : LawFault) → OperationFault trace t (Write x) f → ⊥
none_fails_write trace t x Full h = h
none_fails_write trace t x _ h = h

-- an operation that has a fault breaks its laws
op_breaks : (trace : List Event) (t : ℕ) (o : Op) (f : LawFault) → OperationFault trace t o f → LockLaw trace ◌<◌ (length trace) t o → ThreadLaw trace (length trace) t o → ⊥
op_breaks trace t (Acquire l) f h locks threads = acquire_breaks trace t l f h locks
op_breaks trace t (Release l) f h locks threads = release_breaks trace t l f h locks
op_breaks trace t (Fork u) f h locks threads = fork_breaks trace t u f h threads
op_breaks trace t (Join u) f h locks threads = join_breaks trace t u f h threads
op_breaks trace t (Read x) f h locks threads = none_fails trace t x f h
op_breaks trace t (Write x) f h locks threads = none_fails_write trace t x f h

-- an acquire has one fault at most
acquire_unique : (trace : List Event) → Lawful trace → (t l : ℕ) (f g : LawFault) → OperationFault trace t (Acquire l) f → OperationFault trace t (Acquire l) g → f ≡ g
acquire_unique trace lawful t l Reentrant Reentrant h k = refl
acquire_unique trace lawful t l Reentrant (LockHeld u) h k = absurd (k.0 (one_holder trace lawful (length trace) u t l k.1 h))
acquire_unique trace lawful t l Reentrant _ h k = absurd k
acquire_unique trace lawful t l (LockHeld u) Reentrant h k = absurd (h.0 (one_holder trace lawful (length trace) u t l h.1 k))
acquire_unique trace lawful t l (LockHeld u) (LockHeld v) h k = ap LockHeld (one_holder trace lawful (length trace) u v l h.1 k.1)
acquire_unique trace lawful t l (LockHeld u) _ h k = absurd k
acquire_unique trace lawful t l _ g h k = absurd h

-- a release has one at most
release_unique : (trace : List Event) (t l : ℕ) (f g : LawFault) → OperationFault trace t (Release l) f → OperationFault trace t (Release l) g → f ≡ g
release_unique trace t l NotHeld NotHeld h k = refl
release_unique trace t l NotHeld _ h k = absurd k
release_unique trace t l _ g h k = absurd h

-- a fork has one at most
fork_unique : (trace : List Event) (t u : ℕ) (f g : LawFault) → OperationFault trace t (Fork u) f → OperationFault trace t (Fork u) g → f ≡ g
fork_unique trace t u SelfThread SelfThread h k = refl
fork_unique trace t u SelfThread AfterJoin h k = absurd (k.0 h)
fork_unique trace t u SelfThread ForkTwice h k = absurd (k.0 h)
fork_unique trace t u SelfThread ForkLate h k = absurd (k.0 h)
fork_unique trace t u AfterJoin SelfThread h k = absurd (h.0 k)
fork_unique trace t u AfterJoin AfterJoin h k = refl
fork_unique trace t u AfterJoin ForkTwice h k = absurd (k.1 h.1)
fork_unique trace t u AfterJoin ForkLate h k = absurd (k.1 h.1)
fork_unique trace t u ForkTwice SelfThread h k = absurd (h.0 k)
fork_unique trace t u ForkTwice AfterJoin h k = absurd (h.1 k.1)
fork_unique trace t u ForkTwice ForkTwice h k = refl
fork_unique trace t u ForkTwice ForkLate h k = absurd (k.2 h.2)
fork_unique trace t u ForkLate SelfThread h k = absurd (h.0 k)
fork_unique trace t u ForkLate AfterJoin h k = absurd (h.1 k.1)
fork_unique trace t u ForkLate ForkTwice h k = absurd (h.2 k.2)
fork_unique trace t u ForkLate ForkLate h k = refl
fork_unique trace t u SelfThread _ h k = absurd k
fork_unique trace t u AfterJoin _ h k = absurd k
fork_unique trace t u ForkTwice _ h k = absurd k
fork_unique trace t u ForkLate _ h k = absurd k
fork_unique trace t u _ g h k = absurd h

-- a join has one at most
join_unique : (trace : List Event) (t u : ℕ) (f g : LawFault) → OperationFault trace t (Join u) f → OperationFault trace t (Join u) g → f ≡ g
join_unique trace t u SelfThread SelfThread h k = refl
join_unique trace t u SelfThread _ h k = absurd k
join_unique trace t u _ g h k = absurd h

-- an operation has one fault at most
op_unique : (trace : List Event) → Lawful trace → (t : ℕ) (o : Op) (f g : LawFault) → OperationFault trace t o f → OperationFault trace t o g → f ≡ g
op_unique trace lawful t (Acquire l) f g h k = acquire_unique trace lawful t l f g h k
op_unique trace lawful t (Release l) f g h k = release_unique trace t l f g h k
op_unique trace lawful t (Fork u) f g h k = fork_unique trace t u f g h k
op_unique trace lawful t (Join u) f g h k = join_unique trace t u f g h k
op_unique trace lawful t (Read x) f g h k = absurd (none_fails trace t x f h)
op_unique trace lawful t (Write x) f g h k = absurd (none_fails_write trace t x f h)

-- what an event breaks first is that its thread was joined, or is its operation's fault
breaks_parts : (trace : List Event) (e : Event) (f : LawFault) → BreaksFirst trace e f → (IsJoined trace (length trace) e.thread × (f ≡ AfterJoin)) ⊎ OperationFault trace e.thread e.op f
breaks_parts trace e AfterJoin (inl h) = inl (h, refl)
breaks_parts trace e AfterJoin (inr h) = inr h
breaks_parts trace e _ h = inr h.1

-- where the event's thread was joined, that is what it breaks first
after_join : (trace : List Event) (e : Event) (f : LawFault) → BreaksFirst trace e f → IsJoined trace (length trace) e.thread → f ≡ AfterJoin
after_join trace e AfterJoin h joined = refl
after_join trace e _ h joined = absurd (h.0 joined)

-- an event breaks one law first
breaks_unique : (trace : List Event) → Lawful trace → (e : Event) (f g : LawFault) → BreaksFirst trace e f → BreaksFirst trace e g → f ≡ g
breaks_unique trace lawful e f g h k = go (breaks_parts trace e f h) (breaks_parts trace e g k)
  where
    go : (IsJoined trace (length trace) e.thread × (f ≡ AfterJoin)) ⊎ OperationFault trace e.thread e.op f → (IsJoined trace (length trace) e.thread × (g ≡ AfterJoin)) ⊎ OperationFault trace e.thread e.op g → f ≡ g
    go (inl a) b = a.1 ∙ sym (after_join trace e g k a.0)
    go (inr a) (inl b) = after_join trace e f h b.0 ∙ sym b.1
    go (inr a) (inr b) = op_unique trace lawful e.thread e.op f g a b

-- the two sides of a refusal
refused_parts : (b : Built) (e : Event) (f : LawFault) → IsRefusedFor b e f → ((length b.events ≡ b.capacity) × (f ≡ Full)) ⊎ ((length b.events < b.capacity) × BreaksFirst b.events e f)
refused_parts b e Full h = inl (h, refl)
refused_parts b e _ h = inr h

-- a refused event has one fault
pub refused_unique : (b : Built) → Lawful b.events → (e : Event) (f g : LawFault) → IsRefusedFor b e f → IsRefusedFor b e g → f ≡ g
refused_unique b lawful e f g h k = go (refused_parts b e f h) (refused_parts b e g k)
  where
    go : ((length b.events ≡ b.capacity) × (f ≡ Full)) ⊎ ((length b.events < b.capacity) × BreaksFirst b.events e f) → ((length b.events ≡ b.capacity) × (g ≡ Full)) ⊎ ((length b.events < b.capacity) × BreaksFirst b.events e g) → f ≡ g
    go (inl x) (inl y) = x.1 ∙ sym y.1
    go (inl x) (inr y) = let full = x.0 in let room = y.0 in absurd (omega arith)
    go (inr x) (inl y) = let room = x.0 in let full = y.0 in absurd (omega arith)
    go (inr x) (inr y) = breaks_unique b.events lawful e f g x.1 y.1

-- a refused event may not follow, or there is no room for it
pub refused_not_accepted : (b : Built) (e : Event) (f : LawFault) → IsRefusedFor b e f → (length b.events < b.capacity) × MayFollow b.events e → ⊥
refused_not_accepted b e f h accepted = go (refused_parts b e f h)
  where
    broken : (IsJoined b.events (length b.events) e.thread × (f ≡ AfterJoin)) ⊎ OperationFault b.events e.thread e.op f → ⊥
    broken (inl x) = accepted.1.not_joined x.0
    broken (inr x) = op_breaks b.events e.thread e.op f x accepted.1.locks accepted.1.threads

    go : ((length b.events ≡ b.capacity) × (f ≡ Full)) ⊎ ((length b.events < b.capacity) × BreaksFirst b.events e f) → ⊥
    go (inl x) = let full = x.0 in let room = accepted.0 in absurd (omega arith)
    go (inr x) = broken (breaks_parts b.events e f x.1)

-- an operation's fault is what the event breaks first, where its thread was not joined
pub refused_from_op : (b : Built) (e : Event) (f : LawFault) → length b.events < b.capacity → (IsJoined b.events (length b.events) e.thread → ⊥) → OperationFault b.events e.thread e.op f → IsRefusedFor b e f
refused_from_op b e Full room open_thread h = absurd (no_full b.events e.thread e.op h)
  where
    no_full : (trace : List Event) (t : ℕ) (o : Op) → OperationFault trace t o Full → ⊥
    no_full trace t (Acquire l) k = k
    no_full trace t _ k = k
refused_from_op b e AfterJoin room open_thread h = (room, inr h)
refused_from_op b e _ room open_thread h = (room, (open_thread, h))

-- a clause on faults, from the fault that was answered
pub fault_clause : (b : Built) → Lawful b.events → (e : Event) (f : LawFault) → IsRefusedFor b e f → (r : Result (Unit {0}) LawFault) → r ≡ Err f → (g : LawFault) → (r ≡ Err g) ↔ IsRefusedFor b e g
fault_clause b lawful e f h r is g = (λ same. let equal : f ≡ g = cc in subst (λ (x : LawFault). IsRefusedFor b e x) equal h, λ k. is ∙ ap Err (refused_unique b lawful e f g h k))
