-- Reorderings by what stands before each place, and what the places of a list leave.
use Rattle.std.proofs.Common.{◌≡◌, ℕ, zero, suc, ◌<◌, Bool, true, false, not, cond, ◌&&◌, ◌⊎◌, List, [], ◌∷◌, ◌++◌, nat_eq, slice_get, Option, Some, None, fold, Contains, refl, ap, ◌∙◌}
use Rattle.std.proofs.lemmas.List.Sums.{fold_push}
use Rattle.std.proofs.lemmas.List.Elements.{filter_map-append}
use Rattle.trace_laws.specs.declared.event.Op.{Op}
use Rattle.trace_laws.specs.declared.event.Op.TheVariants.{Read, Write, Acquire, Release, Fork, Join}
use Rattle.trace_laws.specs.Event.{Event}
use Rattle.script_machine.specs.declared.instruction.Instruction.{Instruction}
use Rattle.script_machine.specs.declared.instruction.Instruction.TheVariants.{Do}
use Rattle.script_machine.specs.Machine.{Script, State, Taken, Step, value_after, forked_after, brings, op_of, events}
use Rattle.script_machine.proofs.Steps.{put_same, event_at, holder_after}
use Rattle.replayer.specs.Replays.{along}

-- the places before n, from the first on
abbrev pub upto : ℕ → List ℕ
upto zero = []
upto (suc n) = upto n ++ n ∷ []

-- an event and a later one are in program order: one thread, its fork, its join, or its fork and its join
abbrev pub InOrder : Event → Event → Type 0
InOrder first second = (first.thread ≡ second.thread) ⊎ ((first.op ≡ Fork second.thread)
    ⊎ ((second.op ≡ Join first.thread) ⊎ ((u : ℕ) × (first.op ≡ Fork u) × (second.op ≡ Join u))))

-- place i comes before place j in program order
pub record Before (trace : List Event) (i j : ℕ) : Type 0 where
  pub less : i < j
  pub first : Event
  pub second : Event
  pub at_first : slice_get trace i ≡ Some first
  pub at_second : slice_get trace j ≡ Some second
  pub order : InOrder first second

-- who holds the lock after the events
abbrev pub holder : ℕ → List Event → Option ℕ
holder lock events = fold (λ h e. holder_after lock h e.thread e.op) None events

-- whether the operation writes the variable
abbrev pub writes_by : ℕ → Op → Bool
writes_by variable (Write x) = nat_eq x variable
writes_by variable op = false

-- whether a write of the variable stands at the place
abbrev pub is_write : ℕ → Option Event → Bool
is_write variable (Some e) = writes_by variable e.op
is_write variable None = false

-- the last of the places that writes the variable, if any does
abbrev pub last_write : List Event → ℕ → List ℕ → Option ℕ
last_write trace variable places = fold (λ last p. cond (is_write variable (slice_get trace p)) (Some p) last) None places

-- the law of an acquire and a release, after the events
abbrev pub LockLaw : List Event → ℕ → Op → Type 0
LockLaw events thread (Acquire l) = holder l events ≡ None
LockLaw events thread (Release l) = holder l events ≡ Some thread
LockLaw events thread op = Unit {0}

-- place p may follow the places that are done
pub record Follows (trace : List Event) (done : List ℕ) (p : ℕ) : Type 0 where
  pub event : Event
  pub here : slice_get trace p ≡ Some event
  pub once : Contains done p → ⊥
  pub after : (i : ℕ) → Before trace i p → Contains done i
  pub law : LockLaw (along trace done) event.thread event.op
  pub writer : (x : ℕ) → event.op ≡ Read x → last_write trace x done ≡ last_write trace x (upto p)

-- a correct reordering: each of its places may follow those that stand before it there
abbrev pub Reordering : List Event → List ℕ → Type 0
Reordering trace places = (done : List ℕ) (p : ℕ) (rest : List ℕ) → places ≡ done ++ p ∷ rest → Follows trace done p

-- the event at place p has not come, and all that comes before it in program order has
pub record Enabled (trace : List Event) (places : List ℕ) (p : ℕ) (event : Event) : Type 0 where
  pub here : slice_get trace p ≡ Some event
  pub open_still : Contains places p → ⊥
  pub after : (i : ℕ) → Before trace i p → Contains places i

-- the value of a variable after an operation
pub value_is : (value : ℕ → ℕ) (op : Op) (v x : ℕ) → value_after value op v x ≡ cond (writes_by x op) v (value x)
value_is value (Write y) v x = refl
value_is value _ v x = refl

-- a fork that was taken stays taken
pub forked_stays : (forked : ℕ → Bool) (op : Op) (u : ℕ) → forked u ≡ true → forked_after forked op u ≡ true
forked_stays forked (Fork w) u h = elim (nat_eq w u) as (λ b. cond b true (forked u) ≡ true) [ true ↦ refl | false ↦ h ]
forked_stays forked _ u h = h

-- a fork is taken after its operation
pub forked_by : (forked : ℕ → Bool) (op : Op) (u : ℕ) → op ≡ Fork u → forked_after forked op u ≡ true
forked_by forked op u h = rw h (put_same forked u true)

-- the value of each variable after a step
pub value_step : (script : Script) (s s' : State) (taken : Taken) (step : Step script s taken s') (x : ℕ) → s'.value x ≡ cond (writes_by x taken.event.op) taken.brought (s.value x)
value_step script s s' taken step x = ap (λ z. z.value x) step.new ∙ value_is s.value taken.event.op taken.brought x

-- what a place of the run wrote, and 0 for none
abbrev pub brought_by : Option Taken → ℕ
brought_by (Some taken) = taken.brought
brought_by None = 0

-- what the place wrote, if there is one
abbrev pub written : List Taken → Option ℕ → ℕ
written run (Some p) = brought_by (slice_get run p)
written run None = 0

-- one more place
pub along_push : {X : Type 0} (xs : List X) (places : List ℕ) (p : ℕ) (x : X) → slice_get xs p ≡ Some x → along xs (places ++ p ∷ []) ≡ along xs places ++ x ∷ []
along_push xs places p x h = rw (filter_map-append (slice_get xs) places (p ∷ []), h) refl

-- who holds a lock after one more place
pub holder_push : (trace : List Event) (places : List ℕ) (p : ℕ) (e : Event) (l : ℕ) → slice_get trace p ≡ Some e
    → holder l (along trace (places ++ p ∷ [])) ≡ holder_after l (holder l (along trace places)) e.thread e.op
holder_push trace places p e l h = ap (holder l) (along_push trace places p e h) ∙ fold_push _ None (along trace places) e

-- what was written after one more place
pub written_push : (run : List Taken) (places : List ℕ) (p : ℕ) (taken : Taken) (x : ℕ) → slice_get run p ≡ Some taken
    → written run (last_write (events run) x (places ++ p ∷ [])) ≡ cond (writes_by x taken.event.op) taken.brought (written run (last_write (events run) x places))
written_push run places p taken x h =
    ap (written run) (fold_push _ None places p) ∙ (rw (event_at run p taken h) (pick (writes_by x taken.event.op)))
  where
    pick : (b : Bool) → written run (cond b (Some p) (last_write (events run) x places)) ≡ cond b taken.brought (written run (last_write (events run) x places))
    pick true = rw h refl
    pick false = refl

-- what an operation brings where the registers and the variable that it reads agree
pub brings_same : (s z : State) (t : ℕ) (i : Instruction) (op : Op) → op_of i ≡ Some op
    → ((x : ℕ) → op ≡ Read x → s.value x ≡ z.value x) → s.thread t ≡ z.thread t → brings s t i ≡ brings z t i
brings_same s z t (Do (Read x)) op h reads local = reads x cc
brings_same s z t (Do (Write x)) op h reads local = ap (λ l. l.register) local
brings_same s z t _ op h reads local = refl

-- a thread that is awake stays so where its fork is taken
pub awake_too : (f a b : Bool) → (f && not a) ≡ false → (a ≡ true → b ≡ true) → (f && not b) ≡ false
awake_too false a b h k = refl
awake_too true true b h k = rw (k refl) refl
awake_too true false b h k = absurd (cc)
