-- The machine that runs a script: its states, its steps and its runs.
use Rattle.std.specs.Prelude.{◌≡◌, ℕ, zero, suc, ◌+◌, ◌%◌, ◌^◌, ◌<◌, length, All, sum_by, Bool, true, false, not, cond, ◌&&◌, List, [], ◌∷◌, nat_eq, slice_get, unwrap_or, Option, Some, None, map}
use Rattle.std.specs.List.{list_any}
use Rattle.trace_laws.specs.declared.event.Op.{Op}
use Rattle.trace_laws.specs.declared.event.Op.TheVariants.{Read, Write, Acquire, Release, Fork, Join}
use Rattle.trace_laws.specs.Event.{Event}
use Rattle.trace_laws.specs.Names.{NameLists}
use Rattle.script_machine.specs.declared.instruction.Instruction.{Instruction}
use Rattle.script_machine.specs.declared.instruction.Instruction.TheVariants.{Do, WriteNumber, Add, If, Jump}
use Rattle.script_machine.specs.Line.{Line}

-- a script: the flattened body of each thread, how many locks and variables it names, and the names in the order of their numbers
pub record Script : Type 0 where
  pub bodies : List (List Line)
  pub locks : ℕ
  pub variables : ℕ
  pub names : NameLists

-- where a thread stands: the instructions that it has still to take, and its register
pub record Local : Type 0 where
  pub left : List Line
  pub register : ℕ

-- a state: where each thread stands, whether its fork was taken, who owns each lock, and the value of each variable
pub record State : Type 0 where
  pub thread : ℕ → Local
  pub forked : ℕ → Bool
  pub owner : ℕ → Option ℕ
  pub value : ℕ → ℕ

-- f with the value v at k
abbrev pub put : {X : Type 0} → (ℕ → X) → ℕ → X → ℕ → X
put f k v i = cond (nat_eq k i) v (f i)

-- what a local instruction does to the register, and how many instructions it jumps over; none for the others
abbrev pub jump : Instruction → ℕ → Option (ℕ × ℕ)
jump (Add n) register = Some ((register + n) % 2 ^ 64, 0)
jump (If n count) register = Some (register, cond (nat_eq register n) 0 count)
jump (Jump count) register = Some (register, count)
jump (Do op) register = None
jump (WriteNumber x n) register = None

-- goes on by the jump that the first instruction makes, or stays before it where it makes none
abbrev pub go_on : Option (ℕ × ℕ) → Local → (ℕ → ℕ → Local) → Local
go_on None here go = here
go_on (Some j) here go = go j.1 j.0

-- where a thread stands before these instructions once it has jumped over some of them and taken the local ones
abbrev pub settled : ℕ → List Line → ℕ → Local
settled skip [] register = record { left = []; register = register }
settled (suc skip) (line ∷ lines) register = settled skip lines register
settled zero (line ∷ lines) register =
    go_on (jump line.instruction register) (record { left = line ∷ lines; register = register }) (λ skip r. settled skip lines r)

-- the instructions of thread t; none past the last thread
abbrev pub body : Script → ℕ → List Line
body script t = unwrap_or (slice_get script.bodies t) []

-- the instructions of all threads together
abbrev pub size_of : Script → ℕ
size_of script = sum_by length script.bodies

-- at the start each thread has taken the local instructions at the front of its body
abbrev pub start : Script → State
start script = record {
  thread = λ t. settled 0 (body script t) 0;
  forked = λ t. false;
  owner = λ l. None;
  value = λ x. 0;
}

-- the instruction is a fork of thread t
abbrev pub forks : ℕ → Instruction → Bool
forks t (Do (Fork u)) = nat_eq u t
forks t instruction = false

-- some body holds a fork of the thread
abbrev pub is_forked : Script → ℕ → Bool
is_forked script t = list_any (λ lines. list_any (λ line. forks t line.instruction) lines) script.bodies

-- the thread waits for its fork
abbrev pub is_waiting : Script → State → ℕ → Bool
is_waiting script s t = is_forked script t && not (s.forked t)

-- the thread is running: it does not wait, and an instruction is left
pub record IsRunning (script : Script) (s : State) (t : ℕ) : Type 0 where
  pub awake : is_waiting script s t ≡ false
  pub some_left : (s.thread t).left ≡ [] → ⊥

-- the thread has ended: it does not wait, and no instruction is left
pub record IsEnded (script : Script) (s : State) (t : ℕ) : Type 0 where
  pub awake : is_waiting script s t ≡ false
  pub none_left : (s.thread t).left ≡ []

-- the operation of an instruction that is not local
abbrev pub op_of : Instruction → Option Op
op_of (Do op) = Some op
op_of (WriteNumber x n) = Some (Write x)
op_of instruction = None

-- what an operation brings: what a read reads, what a write writes, and 0 for the rest
abbrev pub brings : State → ℕ → Instruction → ℕ
brings s t (Do (Read x)) = s.value x
brings s t (Do (Write x)) = (s.thread t).register
brings s t (WriteNumber x n) = n
brings s t instruction = 0

-- where thread t may take the operation
abbrev pub Can : Script → State → ℕ → Op → Type 0
Can script s t (Acquire l) = s.owner l ≡ None
Can script s t (Release l) = s.owner l ≡ Some t
Can script s t (Join u) = IsEnded script s u
Can script s t op = Unit {0}

-- the register after an operation that brought v
abbrev pub register_after : ℕ → Op → ℕ → ℕ
register_after register (Read x) v = v
register_after register op v = register

-- the same, where there is an operation
abbrev pub register_by : Option Op → ℕ → ℕ → ℕ
register_by (Some op) register v = register_after register op v
register_by None register v = register

-- the forks that are taken after an operation
abbrev pub forked_after : (ℕ → Bool) → Op → ℕ → Bool
forked_after forked (Fork u) = put forked u true
forked_after forked op = forked

-- the owners after thread t's operation
abbrev pub owner_after : (ℕ → Option ℕ) → ℕ → Op → ℕ → Option ℕ
owner_after owner t (Acquire l) = put owner l (Some t)
owner_after owner t (Release l) = put owner l None
owner_after owner t op = owner

-- the values after an operation that brought v
abbrev pub value_after : (ℕ → ℕ) → Op → ℕ → ℕ → ℕ
value_after value (Write x) v = put value x v
value_after value op v = value

-- the state after thread t took the operation, which brought v, and then its local instructions
abbrev pub after : State → ℕ → Op → ℕ → List Line → State
after s t op v rest = record {
  thread = put s.thread t (settled 0 rest (register_after (s.thread t).register op v));
  forked = forked_after s.forked op;
  owner = owner_after s.owner t op;
  value = value_after s.value op v;
}

-- an event that was taken, and what it brought
pub record Taken : Type 0 where
  pub event : Event
  pub brought : ℕ

-- the next call of a thread that stands here, if it is not at its end
abbrev pub call_at : List Line → Option Op
call_at [] = None
call_at (line ∷ rest) = op_of line.instruction

-- the line of the next instruction
abbrev pub location_of : List Line → ℕ
location_of [] = 0
location_of (line ∷ rest) = line.number

-- what an instruction stores where it is a write
abbrev pub stored_by : Instruction → ℕ → ℕ
stored_by (WriteNumber x n) register = n
stored_by instruction register = register

-- what the next instruction stores where it is a write
abbrev pub stored_at : List Line → ℕ → ℕ
stored_at [] register = register
stored_at (line ∷ rest) register = stored_by line.instruction register

-- the next instruction of a thread that stands here is a write
abbrev pub IsAtWrite : List Line → Type 0
IsAtWrite left = (x : ℕ) × (call_at left ≡ Some (Write x))

-- where a thread stands after its next instruction, where a read reads v
abbrev pub moved : List Line → ℕ → ℕ → Local
moved [] register v = record { left = []; register = register }
moved (line ∷ rest) register v = settled 0 rest (register_by (op_of line.instruction) register v)

-- the event is that of the next instruction of its thread, which may take it in state s, and s' is the state after it
pub record Step (script : Script) (s : State) (taken : Taken) (s' : State) : Type 0 where
  pub line : Line
  pub rest : List Line
  pub next : (s.thread taken.event.thread).left ≡ line ∷ rest
  pub awake : is_waiting script s taken.event.thread ≡ false
  pub op : op_of line.instruction ≡ Some taken.event.op
  pub loc : taken.event.loc ≡ line.number
  pub brought : taken.brought ≡ brings s taken.event.thread line.instruction
  pub can : Can script s taken.event.thread taken.event.op
  pub new : s' ≡ after s taken.event.thread taken.event.op taken.brought rest

-- thread t steps from s to s', and this is the event
pub record StepOf (script : Script) (s : State) (t : ℕ) (event : Event) (s' : State) : Type 0 where
  pub thread : event.thread ≡ t
  pub brought : ℕ
  pub step : Step script s (record { event = event; brought = brought }) s'

-- these are steps, one after the other, from s to s'
abbrev pub Run : Script → State → List Taken → State → Type 0
Run script s [] s' = s ≡ s'
Run script s (taken ∷ more) s' = (mid : State) × Step script s taken mid × Run script mid more s'

-- the events of what was taken
abbrev pub events : List Taken → List Event
events takens = map (λ taken. taken.event) takens

-- the events are a legal run, which leads to the state
abbrev pub LegalRun : Script → List Event → State → Type 0
LegalRun script trace s = (takens : List Taken) × (trace ≡ events takens) × Run script (start script) takens s

-- no thread can step
abbrev pub IsComplete : Script → State → Type 0
IsComplete script s = (taken : Taken) (s' : State) → Step script s taken s' → ⊥

-- thread t is running, and its next call is the operation
pub record NextCall (script : Script) (s : State) (t : ℕ) (call : Op) : Type 0 where
  pub line : Line
  pub rest : List Line
  pub next : (s.thread t).left ≡ line ∷ rest
  pub awake : is_waiting script s t ≡ false
  pub op : op_of line.instruction ≡ Some call

-- thread t can step
abbrev pub CanStep : Script → State → ℕ → Type 0
CanStep script s t = (taken : Taken) × (s' : State) × (taken.event.thread ≡ t) × Step script s taken s'

-- a thread that stands here has no local instruction to take
abbrev pub IsSettled : Local → Type 0
IsSettled here = settled 0 here.left here.register ≡ here

-- the operands of an instruction are locks, variables and threads of the script
abbrev pub OpInRange : Script → Op → Type 0
OpInRange script (Read x) = x < script.variables
OpInRange script (Write x) = x < script.variables
OpInRange script (Acquire l) = l < script.locks
OpInRange script (Release l) = l < script.locks
OpInRange script (Fork u) = u < length script.bodies
OpInRange script (Join u) = u < length script.bodies

-- the same of an instruction
abbrev pub InRange : Script → Instruction → Type 0
InRange script (Do op) = OpInRange script op
InRange script (WriteNumber x n) = x < script.variables
InRange script instruction = Unit {0}

-- the thread's next call, where it is running
abbrev pub next_call : Script → State → ℕ → Option Op
next_call script s t = cond (is_waiting script s t) None (call_at (s.thread t).left)

-- each operand of the script is in range
abbrev pub IsWellFormed : Script → Type 0
IsWellFormed script = (t : ℕ) → t < length script.bodies → All (λ line. InRange script line.instruction) (body script t)

-- no two instructions of the bodies fork one thread
abbrev pub ForksOnce : Script → Type 0
ForksOnce script = (u t t' i i' : ℕ) (line line' : Line) → slice_get (body script t) i ≡ Some line → slice_get (body script t') i' ≡ Some line'
    → forks u line.instruction ≡ true → forks u line'.instruction ≡ true → (t ≡ t') × (i ≡ i')
