-- A deadlock is reached, and for good.
use Rattle.std.proofs.Common.{◌≡◌, ℕ, zero, suc, ◌+◌, ◌<◌, true, false, inl, inr, List, [], ◌∷◌, nat_eq, slice_get, length, Contains, Some, None, refl, sym, ap, ◌∙◌, subst, eqb-true, eq-eqb, arith}
use Rattle.std.proofs.lemmas.Bool.{cases_Bool, cases_lt}
use Rattle.std.proofs.lemmas.List.Elements.{All-contains}
use Rattle.trace_laws.specs.declared.event.Op.{Op}
use Rattle.trace_laws.specs.declared.event.Op.TheVariants.{Acquire, Release}
use Rattle.trace_laws.specs.Event.{Event}
use Rattle.trace_laws.specs.Trace.{thread_at, Holds}
use Rattle.trace_laws.specs.Reordering.{LeavesEnabled}
use Rattle.trace_laws.specs.Patterns.{Class, IsClass, IsPattern, IsInstance, next_in}
use Rattle.trace_laws.proofs.Places.{contains_at, contains_cases, contains_none, op_from_event, mapped_from}
use Rattle.script_machine.specs.Machine.{Script, State, Taken, Step, Run, Can, next_call, events, start}
use Rattle.script_machine.proofs.Steps.{get_in, in_range, owner_step, holder_after}
use Rattle.script_machine.proofs.Calls.{call_of_step}
use Rattle.script_machine.proofs.Determined.{run_unique}
use Rattle.replayer.specs.Replays.{along, IsBlockedBy, AreBlocked, DeadlockReached}
use Rattle.replayer.proofs.Replaying.{Leaves, replay_along}
use Rattle.replayer.proofs.Ordering.{index_of, bridge}
use Rattle.replayer.proofs.HeldAfter.{held_after}
use Rattle.replayer.proofs.Reaching.{next_stays, enabled_after}

-- the next position is one of the cycle
next_inside : (size i : ℕ) → i < size → next_in size i < size
next_inside size i h = elim (cases_Bool (nat_eq (i + 1) size)) [
  | inl t ↦ rw t (omega arith)
  | inr f ↦ rw f (let other : i + 1 ≡ size → ⊥ = λ e. (let yes' = eq-eqb (i + 1) size e in let no' : true ≡ false = sym yes' ∙ f in cc) in
      elim (cases_lt (i + 1) size) [ inl less ↦ less | inr more ↦ absurd (other (omega arith)) ])
]

module _ (script : Script) (trace : List Event) (picks : List ℕ) where
  -- what blocks a pick
  pub blocked_at : (s : State) → AreBlocked script trace s picks → (i p : ℕ) → slice_get picks i ≡ Some p
      → (q : ℕ) × (slice_get picks (next_in (length picks) i) ≡ Some q) × IsBlockedBy script trace s p q
  blocked_at s blocked i p at_i =
      let (q, at_q) = get_in picks (next_in (length picks) i) (next_inside (length picks) i (in_range picks i p at_i)) in
      (q, at_q, blocked i p q at_i at_q)

  -- a thread of a pick does not step
  never : (s s' : State) (taken : Taken) → Step script s taken s' → AreBlocked script trace s picks
      → (p : ℕ) → Contains picks p → thread_at trace p ≡ Some taken.event.thread → ⊥
  never s s' taken step blocked p inside own =
      let (i, less, at_i) = index_of picks p inside in
      let (q, at_q, b) = blocked_at s blocked i p at_i in
      let same : taken.event.thread ≡ b.waiter = (let of = b.acquires.thread in cc) in
      let mine : next_call script s b.waiter ≡ Some (Acquire b.lock) = (let n = b.next in rw (n.awake, n.next) n.op) in
      let its = subst (λ u. next_call script s u ≡ Some taken.event.op) same (call_of_step script s s' taken step) in
      let op : taken.event.op ≡ Acquire b.lock = cc in
      let free : s.owner b.lock ≡ None = subst (λ o. Can script s taken.event.thread o) op step.can in
      let owned = b.owned in
      let no' : None ≡ Some b.owner = sym free ∙ owned in
      cc

  -- a step of another thread leaves the owner
  keeps : (s : State) (l t u : ℕ) → s.owner l ≡ Some t → (u ≡ t → ⊥) → (op : Op) → Can script s u op → holder_after l (s.owner l) u op ≡ Some t
  keeps s l t u owned other (Acquire m) can = elim (cases_Bool (nat_eq m l)) [
    | inl y ↦ absurd (let same : m ≡ l = eqb-true m l y in let free = rw same at can in let no' : None ≡ Some t = sym free ∙ owned in cc)
    | inr y ↦ rw y owned
  ]
  keeps s l t u owned other (Release m) can = elim (cases_Bool (nat_eq m l)) [
    | inl y ↦ absurd (let same : m ≡ l = eqb-true m l y in let mine = rw same at can in let both : Some u ≡ Some t = sym mine ∙ owned in other (cc))
    | inr y ↦ rw y owned
  ]
  keeps s l t u owned other op can = owned

  -- what blocks the picks stays, whatever step is taken
  stays_blocked : (s s' : State) (taken : Taken) → Step script s taken s' → AreBlocked script trace s picks → AreBlocked script trace s' picks
  stays_blocked s s' taken step blocked i p q at_i at_q =
      let b = blocked i p q at_i at_q in
      record {
        waiter = b.waiter;
        owner = b.owner;
        lock = b.lock;
        acquires = b.acquires;
        of_owner = b.of_owner;
        next = next_stays script s s' taken step b.waiter (Acquire b.lock)
            (λ own. never s s' taken step blocked p (contains_at picks i p at_i) (b.acquires.thread ∙ ap Some (sym own))) b.next;
        owned = owner_step script s s' taken step b.lock
            ∙ keeps s b.lock b.owner taken.event.thread b.owned
            (λ own. never s s' taken step blocked q (contains_at picks (next_in (length picks) i) q at_q) (b.of_owner ∙ ap Some (sym own))) taken.event.op step.can;
      }

  -- so in no list of steps does a thread of a pick step
  stuck_for_good : (more : List Taken) (s s' : State) → Run script s more s' → AreBlocked script trace s picks → (taken : Taken) → Contains more taken
      → (p : ℕ) → Contains picks p → thread_at trace p ≡ Some taken.event.thread → ⊥
  stuck_for_good [] s s' run blocked taken there p inside own = contains_none taken there
  stuck_for_good (x ∷ xs) s s' (mid, step, run) blocked taken there p inside own = elim (contains_cases x xs taken there) [
    | inl same ↦ never s mid x step blocked p inside (own ∙ ap (λ (y : Taken). Some y.event.thread) (sym same))
    | inr later ↦ stuck_for_good xs mid s' run (stays_blocked s mid x step blocked) taken later p inside own
  ]

-- the class of a pick
class_at : (pattern : List Class) (picks : List ℕ) → IsInstance pattern picks → (i p : ℕ) → slice_get picks i ≡ Some p
    → (c : Class) × (slice_get pattern i ≡ Some c) × Contains c.acquires p
class_at [] [] picked i p h = absurd (cc)
class_at [] (x ∷ xs) picked i p h = absurd picked
class_at (c ∷ cs) [] picked i p h = absurd picked
class_at (c ∷ cs) (x ∷ xs) picked zero p h = let same : x ≡ p = cc in (c, refl, subst (Contains c.acquires) same picked.0)
class_at (c ∷ cs) (x ∷ xs) picked (suc i) p h = class_at cs xs picked.1 i p h

-- there are as many picks as classes
sizes : (pattern : List Class) (picks : List ℕ) → IsInstance pattern picks → length picks ≡ length pattern
sizes [] [] picked = refl
sizes [] (x ∷ xs) picked = absurd picked
sizes (c ∷ cs) [] picked = absurd picked
sizes (c ∷ cs) (x ∷ xs) picked = let rest = sizes cs xs picked.1 in omega arith

-- the class at a position is one of the trace
class_of : (trace : List Event) (pattern : List Class) → IsPattern trace pattern → (i : ℕ) (c : Class) → slice_get pattern i ≡ Some c → IsClass trace c
class_of trace pattern is i c at_i = All-contains (IsClass trace) pattern c is.classes (contains_at pattern i c at_i)

-- after a reordering that leaves the picks of an instance of a pattern enabled, their deadlock is reached
pub deadlock_law : (script : Script) (run : List Taken) (end s : State) (places picks : List ℕ) (pattern : List Class) → Run script (start script) run end
    → IsPattern (events run) pattern → IsInstance pattern picks → LeavesEnabled (events run) places picks → Run script (start script) (along run places) s
    → DeadlockReached script (events run) s picks
deadlock_law script run end s places picks pattern runs is picked leaves replayed =
    record { blocked = blocked; stuck = λ more s' steps. stuck_for_good script (events run) picks more s s' steps blocked }
  where
    left : Leaves script run places s
    left =
        let (z, along_run, left') = replay_along script run end places runs (bridge (events run) places leaves.correct) in
        let same : z ≡ s = (run_unique script (along run places) (along run places) (start script) (start script) z s refl along_run replayed refl).1 in
        subst (Leaves script run places) same left'

    blocked : AreBlocked script (events run) s picks
    blocked i p q at_i at_q =
        let trace : List Event = events run in
        let (a, at_a, p_of_a) = class_at pattern picks picked i p at_i in
        let (b, at_b, q_of_b) = class_at pattern picks picked (next_in (length picks) i) q at_q in
        let at_b' : slice_get pattern (next_in (length pattern) i) ≡ Some b = subst (λ n. slice_get pattern (next_in n i) ≡ Some b) (sizes pattern picks picked) at_b in
        let first = ((class_of trace pattern is i a at_a).members p).0 p_of_a in
        let second = ((class_of trace pattern is (next_in (length pattern) i) b at_b').members q).0 q_of_b in
        let holds : Holds trace ◌<◌ q b.thread a.lock = (second.held a.lock).0 (is.cycle i a b at_a at_b') in
        let (e, here, of) = mapped_from (λ (x : Event). x.thread) (slice_get trace p) a.thread first.acquires.thread in
        let op : e.op ≡ Acquire a.lock = (let x = first.acquires.op in let y = op_from_event trace p e here in cc) in
        let (f, there, of_b) = mapped_from (λ (x : Event). x.thread) (slice_get trace q) b.thread second.acquires.thread in
        let on_p = enabled_after trace places p e here (leaves.enabled p (contains_at picks i p at_i)) in
        let on_q = enabled_after trace places q f there (leaves.enabled q (contains_at picks (next_in (length picks) i) q at_q)) in
        let own = left.own q f on_q in
        let held = held_after run places (bridge trace places leaves.correct) q b.thread a.lock holds (rw of_b at own) in
        record {
          waiter = a.thread;
          owner = b.thread;
          lock = a.lock;
          acquires = first.acquires;
          of_owner = second.acquires.thread;
          next = (let n = left.next p e on_p in let n' = rw of at n in rw op at n');
          owned = left.owner a.lock ∙ held;
        }
