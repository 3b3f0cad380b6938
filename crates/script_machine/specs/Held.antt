-- What a machine holds, and the state that it stands for.
use Rattle.std.specs.Prelude.{◌≡◌, ℕ, ◌<◌, ◌≤◌, List, [], ◌∷◌, length, get_or, slice_set, Bool, true, false, not, ◌&&◌, nat_eq, Option, Some, None, is_none, All}
use Rattle.sp_base.specs.declared.limits.TheConstants.{MAX_THREADS}
use Rattle.trace_laws.specs.declared.event.Op.{Op}
use Rattle.trace_laws.specs.declared.event.Op.TheVariants.{Read, Write, Acquire, Release, Fork, Join}
use Rattle.script_machine.specs.Line.{Line}
use Rattle.script_machine.specs.Machine.{Script, State, Local, IsSettled, InRange, is_waiting, location_of, stored_at, moved}
use Rattle.trace_laws.specs.Event.{Event}

-- the lists of a machine, by the numbers of threads, locks and variables
pub record Held : Type 0 where
  pub script : Script
  pub threads : List Local
  pub forked : List Bool
  pub owners : List (Option ℕ)
  pub values : List ℕ

-- a thread without a list
abbrev pub at_end : Local
at_end = record { left = []; register = 0 }

-- the state that the lists stand for
abbrev pub meaning : Held → State
meaning m = record {
  thread = λ t. get_or m.threads t at_end;
  forked = λ t. get_or m.forked t false;
  owner = λ l. get_or m.owners l None;
  value = λ x. get_or m.values x 0;
}

-- there is a place for each thread, lock and variable, the operands that are left are among them, and no thread has a local instruction to take
pub record IsWhole (m : Held) : Type 0 where
  pub few : length m.script.bodies ≤ MAX_THREADS
  pub threads : length m.threads ≡ length m.script.bodies
  pub forked : length m.forked ≡ length m.script.bodies
  pub owners : length m.owners ≡ m.script.locks
  pub values : length m.values ≡ m.script.variables
  pub operands : (t : ℕ) → t < length m.script.bodies → All (λ line. InRange m.script line.instruction) (get_or m.threads t at_end).left
  pub settled : (t : ℕ) → t < length m.script.bodies → IsSettled (get_or m.threads t at_end)

-- whether nothing is left
abbrev pub is_empty : List Line → Bool
is_empty [] = true
is_empty (line ∷ rest) = false

-- whether the owner is thread t
abbrev pub is_owner : Option ℕ → ℕ → Bool
is_owner None t = false
is_owner (Some u) t = nat_eq u t

-- whether thread t may take its next call
abbrev pub may_take : Script → State → ℕ → Option Op → Bool
may_take script s t None = false
may_take script s t (Some (Acquire l)) = is_none (s.owner l)
may_take script s t (Some (Release l)) = is_owner (s.owner l) t
may_take script s t (Some (Join u)) = not (is_waiting script s u) && is_empty (s.thread u).left
may_take script s t (Some op) = true

-- what an operation changes in the lists, and what it brings, where a write writes v
abbrev pub forked_list : Op → List Bool → List Bool
forked_list (Fork u) forked = slice_set forked u true
forked_list op forked = forked

-- the owners after an operation of thread t
abbrev pub owners_list : Op → ℕ → List (Option ℕ) → List (Option ℕ)
owners_list (Acquire l) t owners = slice_set owners l (Some t)
owners_list (Release l) t owners = slice_set owners l None
owners_list op t owners = owners

-- the values after an operation, where a write writes v
abbrev pub values_list : Op → ℕ → List ℕ → List ℕ
values_list (Write x) v values = slice_set values x v
values_list op v values = values

-- what an operation brings, where a write writes v
abbrev pub brought_list : Op → ℕ → List ℕ → ℕ
brought_list (Read x) v values = get_or values x 0
brought_list (Write x) v values = v
brought_list op v values = 0

-- the operand of an operation is below the number of threads, of locks or of variables
abbrev pub IsIn : Op → ℕ → ℕ → ℕ → Type 0
IsIn (Read x) threads locks variables = x < variables
IsIn (Write x) threads locks variables = x < variables
IsIn (Acquire l) threads locks variables = l < locks
IsIn (Release l) threads locks variables = l < locks
IsIn (Fork u) threads locks variables = u < threads
IsIn (Join u) threads locks variables = u < threads

-- the variable that an operation reads is below the number of variables
abbrev pub IsVariableIn : Op → ℕ → Type 0
IsVariableIn (Read x) variables = x < variables
IsVariableIn op variables = Unit {0}

-- the lists after the event, where its thread took its next call
pub record IsTaken (m m' : Held) (event : Event) : Type 0 where
  pub brought : ℕ
  pub inside : event.thread < length m.threads
  pub operand : IsIn event.op (length m.forked) (length m.owners) (length m.values)
  pub loc : event.loc ≡ location_of (get_or m.threads event.thread at_end).left
  pub brought_is : brought ≡ brought_list event.op (stored_at (get_or m.threads event.thread at_end).left (get_or m.threads event.thread at_end).register) m.values
  pub threads : m'.threads ≡ slice_set m.threads event.thread (moved (get_or m.threads event.thread at_end).left (get_or m.threads event.thread at_end).register brought)
  pub forked : m'.forked ≡ forked_list event.op m.forked
  pub owners : m'.owners ≡ owners_list event.op event.thread m.owners
  pub values : m'.values ≡ values_list event.op brought m.values
