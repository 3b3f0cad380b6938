-- The lists after a step stand for the state after it.
use Rattle.std.proofs.Common.{◌≡◌, ℕ, zero, suc, ◌<◌, List, [], ◌∷◌, length, get_or, slice_set, replicate, Bool, true, false, Option, Some, None, inl, inr, refl, sym, ap, ◌∙◌, subst, arith, length-set, get_or-set_same, get_or-set_other}
use Rattle.std.proofs.lemmas.List.{get_or_read, get_or_past}
use Rattle.std.proofs.lemmas.List.Elements.{All-head}
use Rattle.std.proofs.lemmas.Bool.{cases_eq, cases_lt}
use Rattle.trace_laws.specs.declared.event.Op.{Op}
use Rattle.trace_laws.specs.declared.event.Op.TheVariants.{Read, Write, Acquire, Release, Fork, Join}
use Rattle.trace_laws.specs.Event.{Event}
use Rattle.script_machine.specs.Line.{Line}
use Rattle.script_machine.specs.declared.instruction.Instruction.{Instruction}
use Rattle.script_machine.specs.declared.instruction.Instruction.TheVariants.{Do, WriteNumber, Add, If, Jump}
use Rattle.script_machine.specs.Machine.{Script, State, Local, IsSettled, Step, Can, CanStep, OpInRange, InRange, put, settled, body, start, moved, register_after, register_by, forked_after, owner_after, value_after, after, brings, op_of, call_at, next_call, location_of, stored_at, stored_by}
use Rattle.script_machine.specs.Held.{Held, IsWhole, IsIn, IsVariableIn, IsTaken, meaning, at_end, forked_list, owners_list, values_list, brought_list}
use Rattle.script_machine.proofs.Calls.{next_of_call, call_of_step}
use Rattle.script_machine.proofs.InRange.{Operands, op_there, moved_in_range}
use Rattle.script_machine.proofs.Settled.{moved_is}
use Rattle.script_machine.proofs.Sizes.{no_body}
use Rattle.script_machine.proofs.Steps.{put_same, put_other}

-- an operand of the script is below the length of its list
is_in : (m : Held) (op : Op) → IsWhole m → OpInRange m.script op → IsIn op (length m.forked) (length m.owners) (length m.values)
is_in m (Read x) whole h = omega (arith, whole.values)
is_in m (Write x) whole h = omega (arith, whole.values)
is_in m (Acquire l) whole h = omega (arith, whole.owners)
is_in m (Release l) whole h = omega (arith, whole.owners)
is_in m (Fork u) whole h = omega (arith, whole.forked)
is_in m (Join u) whole h = omega (arith, whole.forked)

-- the operand of a next call is in range
pub operand_in : (m : Held) (t : ℕ) (op : Op) → IsWhole m → t < length m.script.bodies → next_call m.script (meaning m) t ≡ Some op
    → IsIn op (length m.forked) (length m.owners) (length m.values)
operand_in m t op whole h call =
    let next = next_of_call m.script (meaning m) t op call in
    let all : Operands m.script (next.line ∷ next.rest) = subst (λ xs. Operands m.script xs) next.next (whole.operands t h) in
    is_in m op whole (op_there m.script next.line.instruction op next.op (All-head (λ l. InRange m.script l.instruction) next.line next.rest all))

-- the next call of a thread, as the code reads it
pub call_here : (m : Held) (t : ℕ) (op : Op) (run : Local) → IsWhole m → t < length m.script.bodies → next_call m.script (meaning m) t ≡ Some op
    → run ≡ get_or m.threads t run → call_at run.left ≡ Some op
call_here m t op run whole h call read =
    let inside : t < length m.threads = omega (arith, whole.threads) in
    let there : run ≡ get_or m.threads t at_end = get_or_read m.threads t run inside read at_end in
    let next = next_of_call m.script (meaning m) t op call in
    ap (λ r. call_at r.left) there ∙ ap call_at next.next ∙ next.op

-- a thread with a next call is not at its end
pub some_left : (left : List Line) (op : Op) → call_at left ≡ Some op → left ≡ [] → ⊥
some_left left op call none = let end : call_at left ≡ None = ap call_at none in let no' : None ≡ Some op = sym end ∙ call in cc

-- an operand in range is one in the values, where it is read
pub variable_in : (op : Op) (threads locks variables : ℕ) → IsIn op threads locks variables → IsVariableIn op variables
variable_in (Read x) threads locks variables h = h
variable_in _ threads locks variables h = tt

-- what the code changed is what the event changes
pub taken_from : (m m' : Held) (event : Event) (brought : ℕ) (run run' : Local)
    → IsWhole m → event.thread < length m.script.bodies → next_call m.script (meaning m) event.thread ≡ Some event.op
    → run ≡ get_or m.threads event.thread run
    → event.loc ≡ location_of run.left → run' ≡ moved run.left run.register brought
    → brought ≡ brought_list event.op (stored_at run.left run.register) m.values
    → m'.threads ≡ slice_set m.threads event.thread run'
    → m'.forked ≡ forked_list event.op m.forked → m'.owners ≡ owners_list event.op event.thread m.owners → m'.values ≡ values_list event.op brought m.values
    → IsTaken m m' event
taken_from m m' event brought run run' whole h call read loc run'_is brings threads forked owners values =
    let inside : event.thread < length m.threads = omega (arith, whole.threads) in
    let there : run ≡ get_or m.threads event.thread at_end = get_or_read m.threads event.thread run inside read at_end in
    record {
      brought = brought;
      inside = inside;
      operand = operand_in m event.thread event.op whole h call;
      loc = loc ∙ ap (λ r. location_of r.left) there;
      brought_is = brings ∙ ap (λ r. brought_list event.op (stored_at r.left r.register) m.values) there;
      threads = threads ∙ ap (λ r. slice_set m.threads event.thread r) (run'_is ∙ ap (λ r. moved r.left r.register brought) there);
      forked = forked;
      owners = owners;
      values = values;
    }

-- the lists keep their lengths
forked_length : (op : Op) (xs : List Bool) → length (forked_list op xs) ≡ length xs
forked_length (Fork u) xs = length-set xs u true
forked_length _ xs = refl

-- so does the list of owners
owners_length : (op : Op) (t : ℕ) (xs : List (Option ℕ)) → length (owners_list op t xs) ≡ length xs
owners_length (Acquire l) t xs = length-set xs l (Some t)
owners_length (Release l) t xs = length-set xs l None
owners_length _ t xs = refl

-- and that of values
values_length : (op : Op) (v : ℕ) (xs : List ℕ) → length (values_list op v xs) ≡ length xs
values_length (Write x) v xs = length-set xs x v
values_length _ v xs = refl

-- an element after a write
pub get_set : {X : Type 0} (xs : List X) (i : ℕ) (v d : X) (j : ℕ) → i < length xs → get_or (slice_set xs i v) j d ≡ put (λ k. get_or xs k d) i v j
get_set xs i v d j h = elim (cases_eq i j) [
  | inl e ↦ rw (← e) (get_or-set_same xs i v d h ∙ sym (put_same (λ k. get_or xs k d) i v))
  | inr ne ↦ get_or-set_other xs i j v d (λ e. ne (sym e)) ∙ sym (put_other (λ k. get_or xs k d) i v j ne)
]

-- the lists after an event have a place for each thread, lock and variable, operands in range, and settled threads
pub whole_after : (m m' : Held) (event : Event) → IsWhole m → m'.script ≡ m.script → IsTaken m m' event → IsWhole m'
whole_after m m' event whole same taken =
    let bodies : length m'.script.bodies ≡ length m.script.bodies = ap (λ s. length s.bodies) same in
    let threads : length m'.threads ≡ length m.threads = ap length taken.threads ∙ length-set m.threads event.thread _ in
    record {
      few = omega (arith, whole.few);
      threads = threads ∙ whole.threads ∙ sym bodies;
      forked = ap length taken.forked ∙ forked_length event.op m.forked ∙ whole.forked ∙ sym bodies;
      owners = ap length taken.owners ∙ owners_length event.op event.thread m.owners ∙ whole.owners ∙ ap (λ s. s.locks) (sym same);
      values = ap length taken.values ∙ values_length event.op taken.brought m.values ∙ whole.values ∙ ap (λ s. s.variables) (sym same);
      operands = λ t h. subst (λ s. Operands s (get_or m'.threads t at_end).left) (sym same)
          (subst (λ xs. Operands m.script (get_or xs t at_end).left) (sym taken.threads)
          (elim (cases_eq event.thread t) [
            | inl e ↦ rw (← e, get_or-set_same m.threads event.thread (moved (get_or m.threads event.thread at_end).left (get_or m.threads event.thread at_end).register taken.brought) at_end taken.inside)
                (moved_in_range m.script (get_or m.threads event.thread at_end).left (get_or m.threads event.thread at_end).register taken.brought (whole.operands event.thread (omega (arith, taken.inside, whole.threads))))
            | inr ne ↦ rw (get_or-set_other m.threads event.thread t (moved (get_or m.threads event.thread at_end).left (get_or m.threads event.thread at_end).register taken.brought) at_end (λ e. ne (sym e)))
                (whole.operands t (omega (arith, bodies)))
          ]));
      settled = λ t h. subst (λ xs. IsSettled (get_or xs t at_end)) (sym taken.threads)
          (elim (cases_eq event.thread t) [
            | inl e ↦ rw (← e, get_or-set_same m.threads event.thread (moved (get_or m.threads event.thread at_end).left (get_or m.threads event.thread at_end).register taken.brought) at_end taken.inside)
                (moved_is (get_or m.threads event.thread at_end).left (get_or m.threads event.thread at_end).register taken.brought)
            | inr ne ↦ rw (get_or-set_other m.threads event.thread t (moved (get_or m.threads event.thread at_end).left (get_or m.threads event.thread at_end).register taken.brought) at_end (λ e. ne (sym e)))
                (whole.settled t (omega (arith, bodies)))
          ]);
    }

-- the marks after an operation stand for the forks after it
forked_means : (op : Op) (xs : List Bool) (n k : ℕ) → IsIn op (length xs) n k → (u : ℕ) → get_or (forked_list op xs) u false ≡ forked_after (λ i. get_or xs i false) op u
forked_means (Fork w) xs n k h u = get_set xs w true false u h
forked_means _ xs n k h u = refl

-- so do the owners
owner_means : (op : Op) (t : ℕ) (xs : List (Option ℕ)) (n k : ℕ) → IsIn op n (length xs) k → (l : ℕ) → get_or (owners_list op t xs) l None ≡ owner_after (λ i. get_or xs i None) t op l
owner_means (Acquire w) t xs n k h l = get_set xs w (Some t) None l h
owner_means (Release w) t xs n k h l = get_set xs w None None l h
owner_means _ t xs n k h l = refl

-- and the values
value_means : (op : Op) (v : ℕ) (xs : List ℕ) (n k : ℕ) → IsIn op n k (length xs) → (x : ℕ) → get_or (values_list op v xs) x 0 ≡ value_after (λ i. get_or xs i 0) op v x
value_means (Write w) v xs n k h x = get_set xs w v 0 x h
value_means _ v xs n k h x = refl

-- what the lists bring is what the state brings
brings_means : (m : Held) (t : ℕ) (i : Instruction) (op : Op) → op_of i ≡ Some op
    → brought_list op (stored_by i (get_or m.threads t at_end).register) m.values ≡ brings (meaning m) t i
brings_means m t (Do (Read x)) op e = let same : op ≡ Read x = cc in rw same refl
brings_means m t (Do (Write x)) op e = let same : op ≡ Write x = cc in rw same refl
brings_means m t (Do (Acquire l)) op e = let same : op ≡ Acquire l = cc in rw same refl
brings_means m t (Do (Release l)) op e = let same : op ≡ Release l = cc in rw same refl
brings_means m t (Do (Fork u)) op e = let same : op ≡ Fork u = cc in rw same refl
brings_means m t (Do (Join u)) op e = let same : op ≡ Join u = cc in rw same refl
brings_means m t (WriteNumber x n) op e = let same : op ≡ Write x = cc in rw same refl
brings_means m t (Add n) op e = absurd (cc)
brings_means m t (If n count) op e = absurd (cc)
brings_means m t (Jump count) op e = absurd (cc)

-- two states that agree in each part are one
pub same_state : (s z : State) → ((t : ℕ) → s.thread t ≡ z.thread t) → ((t : ℕ) → s.forked t ≡ z.forked t)
    → ((l : ℕ) → s.owner l ≡ z.owner l) → ((x : ℕ) → s.value x ≡ z.value x) → s ≡ z
same_state s z a b c d = λ i. record { thread = λ t. a t i; forked = λ t. b t i; owner = λ l. c l i; value = λ x. d x i }

-- the lists after an event stand for the state after its step
pub step_means : (m m' : Held) (event : Event) (taken : IsTaken m m' event) → next_call m.script (meaning m) event.thread ≡ Some event.op
    → Can m.script (meaning m) event.thread event.op → Step m.script (meaning m) (record { event = event; brought = taken.brought }) (meaning m')
step_means m m' event taken call can =
    let next = next_of_call m.script (meaning m) event.thread event.op call in
    let here = get_or m.threads event.thread at_end in
    let brought : taken.brought ≡ brings (meaning m) event.thread next.line.instruction =
    taken.brought_is ∙ ap (λ xs. brought_list event.op (stored_at xs here.register) m.values) next.next ∙ brings_means m event.thread next.line.instruction event.op next.op in
    let went : moved here.left here.register taken.brought ≡ settled 0 next.rest (register_after here.register event.op taken.brought) =
    ap (λ xs. moved xs here.register taken.brought) next.next ∙ ap (λ o. settled 0 next.rest (register_by o here.register taken.brought)) next.op in
    record {
      line = next.line;
      rest = next.rest;
      next = next.next;
      awake = next.awake;
      op = next.op;
      loc = taken.loc ∙ ap location_of next.next;
      brought = brought;
      can = can;
      new = same_state (meaning m') (after (meaning m) event.thread event.op taken.brought next.rest)
          (λ t. ap (λ xs. get_or xs t at_end) taken.threads ∙ get_set m.threads event.thread _ at_end t taken.inside ∙ ap (λ r. put (λ k. get_or m.threads k at_end) event.thread r t) went)
          (λ t. ap (λ xs. get_or xs t false) taken.forked ∙ forked_means event.op m.forked (length m.owners) (length m.values) taken.operand t)
          (λ l. ap (λ xs. get_or xs l None) taken.owners ∙ owner_means event.op event.thread m.owners (length m.forked) (length m.values) taken.operand l)
          (λ x. ap (λ xs. get_or xs x 0) taken.values ∙ value_means event.op taken.brought m.values (length m.forked) (length m.owners) taken.operand x);
    }

-- a thread that can step may take its next call
pub can_from : (script : Script) (s : State) (t : ℕ) (op : Op) → CanStep script s t → next_call script s t ≡ Some op → Can script s t op
can_from script s t op (taken, s', own, step) call =
    let there = call_of_step script s s' taken step in
    let at_t : next_call script s t ≡ Some taken.event.op = subst (λ u. next_call script s u ≡ Some taken.event.op) own there in
    let same : taken.event.op ≡ op = cc in
    subst (λ o. Can script s t o) same (subst (λ u. Can script s u taken.event.op) own step.can)

-- each element of a list of one value is that value
replicate_any : {X : Type 0} (n i : ℕ) (a : X) → get_or (replicate n a) i a ≡ a
replicate_any zero i a = refl
replicate_any (suc n) zero a = refl
replicate_any (suc n) (suc i) a = replicate_any n i a

-- the lists of a machine at the start
pub start_means : (m : Held) (a b c : ℕ) → length m.threads ≡ length m.script.bodies
    → ((t : ℕ) → t < length m.script.bodies → get_or m.threads t at_end ≡ settled 0 (body m.script t) 0)
    → m.forked ≡ replicate a false → m.owners ≡ replicate b None → m.values ≡ replicate c 0 → meaning m ≡ start m.script
start_means m a b c count each forked owners values = same_state (meaning m) (start m.script)
    (λ t. elim (cases_lt t (length m.script.bodies)) [
      | inl less ↦ each t less
      | inr more ↦ get_or_past m.threads t at_end (omega arith) ∙ ap (λ xs. settled 0 xs 0) (sym (no_body m.script.bodies t more))
    ])
    (λ t. rw forked (replicate_any a t false))
    (λ l. rw owners (replicate_any b l None))
    (λ x. rw values (replicate_any c x 0))
