-- Next calls, and whether a thread may take them.
use Rattle.std.proofs.Common.{◌≡◌, ℕ, Bool, true, false, not, List, [], ◌∷◌, is_none, IsTrue, ◌↔◌, Option, Some, None, refl, ap, subst, eqb-true, eq-eqb}
use Rattle.std.proofs.lemmas.Bool.{and_parts, not-true}
use Rattle.trace_laws.specs.Event.{Event}
use Rattle.script_machine.specs.Line.{Line}
use Rattle.trace_laws.specs.declared.event.Op.{Op}
use Rattle.trace_laws.specs.declared.event.Op.TheVariants.{Acquire, Release, Join}
use Rattle.script_machine.specs.Machine.{Script, State, Taken, Step, Can, CanStep, NextCall, after, brings, next_call, is_waiting}
use Rattle.script_machine.specs.Held.{may_take, is_owner, is_empty}

-- a thread that may take its next call can step
pub can_step : (script : Script) (s : State) (t : ℕ) (op : Op) → NextCall script s t op → Can script s t op → CanStep script s t
can_step script s t op next can =
    let brought = brings s t next.line.instruction in
    let event : Event = record { thread = t; op = op; loc = next.line.number } in (
      record { event = event; brought = brought },
      after s t op brought next.rest,
      refl,
      record { line = next.line; rest = next.rest; next = next.next; awake = next.awake; op = next.op; loc = refl; brought = refl; can = can; new = refl },
    )

-- what the test of none says
none_there : {X : Type 0} (o : Option X) → is_none o ≡ true → o ≡ None
none_there None h = refl
none_there (Some x) h = absurd (cc)

-- what the test of the owner says
owner_there : (o : Option ℕ) (t : ℕ) → is_owner o t ≡ true → o ≡ Some t
owner_there None t h = absurd (cc)
owner_there (Some u) t h = ap Some (eqb-true u t h)

-- what the test of the end says
empty_there : (left : List Line) → is_empty left ≡ true → left ≡ []
empty_there [] h = refl
empty_there (line ∷ rest) h = absurd (cc)

-- a thread that may take its next call by the test can take it
can_of : (script : Script) (s : State) (t : ℕ) (op : Op) → may_take script s t (Some op) ≡ true → Can script s t op
can_of script s t (Acquire l) h = none_there (s.owner l) h
can_of script s t (Release l) h = owner_there (s.owner l) t h
can_of script s t (Join u) h =
    let parts = and_parts (not (is_waiting script s u)) (is_empty (s.thread u).left) h in
    record { awake = not-true (is_waiting script s u) parts.0; none_left = empty_there (s.thread u).left parts.1 }
can_of script s t _ h = tt

-- and the other way round
may_of : (script : Script) (s : State) (t : ℕ) (op : Op) → Can script s t op → may_take script s t (Some op) ≡ true
may_of script s t (Acquire l) can = rw can refl
may_of script s t (Release l) can = rw can (eq-eqb t t refl)
may_of script s t (Join u) ended = rw (ended.awake, ended.none_left) refl
may_of script s t _ can = refl

-- the next call, as the relation has it
pub next_of_call : (script : Script) (s : State) (t : ℕ) (op : Op) → next_call script s t ≡ Some op → NextCall script s t op
next_of_call script s t op h = go (is_waiting script s t) refl (s.thread t).left refl
  where
    go : (w : Bool) → is_waiting script s t ≡ w → (left : List Line) → (s.thread t).left ≡ left → NextCall script s t op
    go true e left f = let no = rw e at h in absurd (cc)
    go false e [] f = let no = rw (e, f) at h in absurd (cc)
    go false e (line ∷ rest) f = let is = rw (e, f) at h in record { line = line; rest = rest; next = f; awake = e; op = is }

-- a step takes the next call of its thread
pub call_of_step : (script : Script) (s s' : State) (taken : Taken) → Step script s taken s' → next_call script s taken.event.thread ≡ Some taken.event.op
call_of_step script s s' taken step = rw (step.awake, step.next) step.op

-- the test says whether the thread can step
pub can_step_decides : (script : Script) (s : State) (t : ℕ) → IsTrue (may_take script s t (next_call script s t)) ↔ CanStep script s t
can_step_decides script s t = (forwards, λ (taken, s', own, step). back taken s' own step)
  where
    forwards : IsTrue (may_take script s t (next_call script s t)) → CanStep script s t
    forwards h = go (next_call script s t) refl
      where
        go : (call : Option Op) → next_call script s t ≡ call → CanStep script s t
        go None e = let no = rw e at h in absurd (cc)
        go (Some op) e = let may = rw e at h in can_step script s t op (next_of_call script s t op e) (can_of script s t op may)

    back : (taken : Taken) (s' : State) → taken.event.thread ≡ t → Step script s taken s' → IsTrue (may_take script s t (next_call script s t))
    back taken s' own step =
        subst (λ u. IsTrue (may_take script s u (next_call script s u))) own
        (rw (call_of_step script s s' taken step) (may_of script s taken.event.thread taken.event.op step.can))
