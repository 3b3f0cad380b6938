-- Parts of a list of statements that spell a body, and what the code answers for them.
use Rattle.std.specs.Prelude.{◌≡◌, ℕ, ◌+◌, ◌≤◌, Bool, true, nat_lt, List, [], ◌∷◌, ◌++◌, drop, length, map, if◌then◌else◌, Option, Some, None}
use Rattle.sp_base.specs.declared.limits.TheConstants.{MAX_INSTRUCTIONS, MAX_THREADS, MAX_LOCKS, MAX_VARS}
use Rattle.script_machine.specs.Line.{Line}
use Rattle.script_machine.specs.declared.flatten.Flat.{Flat}
use Rattle.script_machine.specs.Machine.{Script}
use Rattle.script_machine.specs.ScriptText.{Numbered, Tables, Body, Empty, Statement, Thread, Else, End, spelling, flattened, ThreadText, threads_spelling, size_fault}
use Rattle.script_machine.specs.ResolvedLine.{ResolvedLine}
use Rattle.script_machine.specs.Resolving.{AreResolved}
use Rattle.script_machine.specs.declared.fault.ScriptFault.{ScriptFault as Fault}

-- the names of each kind are within their limit
pub record IsFew (names : Tables) : Type 0 where
  pub threads : length names.threads ≤ MAX_THREADS
  pub locks : length names.locks ≤ MAX_LOCKS
  pub variables : length names.variables ≤ MAX_VARS

-- what may stand behind a body
abbrev pub IsEnder : Statement → Type 0
IsEnder (Thread name) = Unit {0}
IsEnder Else = Unit {0}
IsEnder End = Unit {0}
IsEnder statement = ⊥

-- the statements are none, or begin with one that may stand behind a body
abbrev pub Ends : List Numbered → Type 0
Ends [] = Unit {0}
Ends (s ∷ rest) = IsEnder s.says

-- a size, or one past the limit
abbrev pub capped : ℕ → ℕ
capped n = if nat_lt MAX_INSTRUCTIONS n then MAX_INSTRUCTIONS + 1 else n

-- part of a body is taken: the rest of it is left, and the part has this size and, where it is written, these lines
pub record IsPart (names : Tables) (statements : List Numbered) (write : Bool) (b : Body) (behind : List Numbered) (count : ℕ) (part : List Line) (next : ℕ) : Type 0 where
  pub rest : Body
  pub left : drop next statements ≡ spelling rest ++ behind
  pub size : capped (length (flattened names b)) ≡ capped (count + length (flattened names rest))
  pub lines : write ≡ true → length (flattened names b) ≤ MAX_INSTRUCTIONS → flattened names b ≡ part ++ flattened names rest

-- the whole body is taken
pub record IsWholeBody (names : Tables) (statements : List Numbered) (write : Bool) (b : Body) (behind : List Numbered) (flat : Flat) : Type 0 where
  pub size : flat.size ≡ capped (length (flattened names b))
  pub lines : write ≡ true → length (flattened names b) ≤ MAX_INSTRUCTIONS → flat.lines.items ≡ flattened names b
  pub left : drop flat.next statements ≡ behind

-- nothing is answered where the body is empty, and else a part of it
abbrev pub AfterPiece : Tables → List Numbered → Bool → Body → List Numbered → Option Flat → Type 0
AfterPiece names statements write b behind None = b ≡ Empty
AfterPiece names statements write b behind (Some flat) = IsPart names statements write b behind flat.size flat.lines.items flat.next

-- the answer for the first action or block of the body that starts at a place, where one does
abbrev pub IsPiece : Tables → List Numbered → ℕ → Bool → Option Flat → Type 0
IsPiece names statements at write answer =
    (b : Body) (behind : List Numbered) → drop at statements ≡ spelling b ++ behind → Ends behind → AfterPiece names statements write b behind answer

-- the answer for the body that starts at a place, where one does
abbrev pub IsFlat : Tables → List Numbered → ℕ → Bool → Flat → Type 0
IsFlat names statements at write flat =
    (b : Body) (behind : List Numbered) → drop at statements ≡ spelling b ++ behind → Ends behind → IsWholeBody names statements write b behind flat

-- so for whatever statements the lines resolve
abbrev pub IsPieceOf : List ResolvedLine → ℕ → Bool → Option Flat → Type 0
IsPieceOf steps at write answer = (names : Tables) (statements : List Numbered) → AreResolved names statements steps → IsPiece names statements at write answer

-- the same of a whole body
abbrev pub IsFlatOf : List ResolvedLine → ℕ → Bool → Flat → Type 0
IsFlatOf steps at write flat = (names : Tables) (statements : List Numbered) → AreResolved names statements steps → IsFlat names statements at write flat

-- the answer of the sizes of the threads that the lines spell
abbrev pub IsSizeFault : List ResolvedLine → Option Fault → Type 0
IsSizeFault steps answer = (names : Tables) (statements : List Numbered) → AreResolved names statements steps
    → (threads : List ThreadText) → statements ≡ threads_spelling threads → answer ≡ size_fault 0 threads (map (λ t. flattened names t.body) threads)

-- these are the flattened bodies of the threads that the lines spell, where the sizes are within the limit
abbrev pub AreBodies : List ResolvedLine → List (List Line) → Type 0
AreBodies steps bodies = (names : Tables) (statements : List Numbered) → AreResolved names statements steps
    → (threads : List ThreadText) → statements ≡ threads_spelling threads → size_fault 0 threads (map (λ t. flattened names t.body) threads) ≡ None
    → bodies ≡ map (λ t. flattened names t.body) threads

-- a script of these bodies alone
abbrev pub made_of : List (List Line) → Script
made_of bodies = record { bodies = bodies; locks = 0; variables = 0; names = record { threads = []; locks = []; vars = [] } }
