-- The text of scripts: its lines and words, its statements, its blocks, what they flatten to, and its first fault.
use Rattle.std.specs.Prelude.{◌≡◌, ℕ, zero, suc, ◌+◌, ◌-◌, ◌^◌, ◌<◌, Bool, true, false, not, ◌&&◌, ◌||◌, ◌⊎◌, List, [], ◌∷◌, ◌++◌, map, length, take, nat_eq, nat_lt, nat_le, ◌==◌, slice_get, unwrap_or, is_none, Option, Some, None, Result, Ok, Err, fold, ok_or, filter, filter_map, flat_map, sum_by, count_by, find, codes, bytes_eq, if◌then◌else◌}
use Rattle.std.specs.List.{enumerate_from}
use Rattle.sp_base.specs.declared.limits.TheConstants.{MAX_DEPTH, MAX_THREADS, MAX_LOCKS, MAX_VARS, MAX_INSTRUCTIONS}
use Rattle.sp_base.specs.Digits.{number_written}
use Rattle.trace_laws.specs.declared.event.Op.TheVariants as op
use Rattle.trace_laws.specs.Names.{NameLists, is_name, is_numbered, with_name as with_one, number_of as place_of}
use Rattle.script_machine.specs.declared.instruction.Instruction.{Instruction}
use Rattle.script_machine.specs.declared.instruction.Instruction.TheVariants as instruction
use Rattle.script_machine.specs.Line.{Line}
use Rattle.script_machine.specs.declared.fault.ScriptKind.{ScriptKind}
use Rattle.script_machine.specs.declared.fault.ScriptKind.TheVariants.{UnknownWord, Operand, Number, NoThread, TwiceNamed, UnknownThread, ForkedTwice, OpenBlock, StrayEnd, TooDeep, TooManyInstructions, TooManyNames}
use Rattle.script_machine.specs.declared.tables.Block.{Block}
use Rattle.script_machine.specs.declared.text.TheConstants.{MAX_TIMES}
use Rattle.script_machine.specs.declared.fault.ScriptFault.{ScriptFault as Fault}
use Rattle.script_machine.specs.Machine.{Script, forks}

-- Lines and words

-- the byte at the front of the first piece
abbrev pub before_all : ℕ → List (List ℕ) → List (List ℕ)
before_all b [] = (b ∷ []) ∷ []
before_all b (piece ∷ pieces) = (b ∷ piece) ∷ pieces

-- what stands between the bytes that pass the test; nothing after the last of them is no piece
abbrev pub pieces : (ℕ → Bool) → List ℕ → List (List ℕ)
pieces test [] = []
pieces test (b ∷ bs) = if test b then [] ∷ pieces test bs else before_all b (pieces test bs)

-- without one carriage return at the end
abbrev pub without_return : List ℕ → List ℕ
without_return [] = []
without_return (b ∷ []) = if b == 13 then [] else b ∷ []
without_return (b ∷ c ∷ bs) = b ∷ without_return (c ∷ bs)

-- the lines of a text, each without one carriage return at its end
abbrev pub lines_of : List ℕ → List (List ℕ)
lines_of text = map without_return (pieces (λ b. b == 10) text)

-- a space or a tab
abbrev pub is_blank : ℕ → Bool
is_blank b = b == 32 || b == 9

-- the words of a line, between spaces and tabs
abbrev pub words_of : List ℕ → List (List ℕ)
words_of line = filter (λ word. nat_lt 0 (length word)) (pieces is_blank line)

-- Statements

-- what becomes an instruction wherever it stands; a thread, a lock and a variable are named
pub data Action : Type 0 where
  Lock Unlock Read Write Fork Join : List ℕ → Action
  WriteNumber : List ℕ → ℕ → Action
  Add : ℕ → Action

-- what a line says
pub data Statement : Type 0 where
  Thread : List ℕ → Statement
  Act : Action → Statement
  If Repeat : ℕ → Statement
  Else End : Statement

-- a statement with the number of its line
pub record Numbered : Type 0 where
  pub line : ℕ
  pub says : Statement

-- the value changed, where there is one
abbrev pub with_ok : {T U E : Type 0} → (T → U) → Result T E → Result U E
with_ok f (Ok x) = Ok (f x)
with_ok f (Err e) = Err e

-- the one word, where it is a name
abbrev pub name_in : List (List ℕ) → Result (List ℕ) ScriptKind
name_in (name ∷ []) = if is_name name then Ok name else Err Operand
name_in words = Err Operand

-- the one word, where it is a number up to the bound
abbrev pub number_in_words : ℕ → List (List ℕ) → Result ℕ ScriptKind
number_in_words bound (word ∷ []) = ok_or (number_written bound word) Number
number_in_words bound words = Err Operand

-- no word, as 0
abbrev pub no_more : List (List ℕ) → Result ℕ ScriptKind
no_more [] = Ok 0
no_more (word ∷ words) = Err Operand

-- a statement with the one name among the words
abbrev pub named : (List ℕ → Statement) → List (List ℕ) → Result Statement ScriptKind
named make words = with_ok make (name_in words)

-- a statement with the one number among the words
abbrev pub numbered : (ℕ → Statement) → ℕ → List (List ℕ) → Result Statement ScriptKind
numbered make bound words = with_ok make (number_in_words bound words)

-- a statement without further words
abbrev pub alone : Statement → List (List ℕ) → Result Statement ScriptKind
alone statement words = with_ok (λ _. statement) (no_more words)

-- the greatest number of 64 bits
abbrev pub max_number : ℕ
max_number = 2 ^ 64 - 1

-- a write of the register, or of a number where a second word stands
abbrev pub write_of : List (List ℕ) → Result Statement ScriptKind
write_of (name ∷ number ∷ []) = if is_name name then with_ok (λ n. Act (WriteNumber name n)) (ok_or (number_written max_number number) Number) else Err Operand
write_of words = named (λ name. Act (Write name)) words

-- what the first word and the words after it say, or which of the kinds 21 to 23 they are
abbrev pub statement_of : List ℕ → List (List ℕ) → Result Statement ScriptKind
statement_of word words =
    if bytes_eq word (codes "thread") then named Thread words
    else if bytes_eq word (codes "lock") then named (λ name. Act (Lock name)) words
    else if bytes_eq word (codes "unlock") then named (λ name. Act (Unlock name)) words
    else if bytes_eq word (codes "read") then named (λ name. Act (Read name)) words
    else if bytes_eq word (codes "write") then write_of words
    else if bytes_eq word (codes "add") then numbered (λ n. Act (Add n)) max_number words
    else if bytes_eq word (codes "fork") then named (λ name. Act (Fork name)) words
    else if bytes_eq word (codes "join") then named (λ name. Act (Join name)) words
    else if bytes_eq word (codes "if") then numbered If max_number words
    else if bytes_eq word (codes "else") then alone Else words
    else if bytes_eq word (codes "repeat") then numbered Repeat MAX_TIMES words
    else if bytes_eq word (codes "end") then alone End words
    else Err UnknownWord

-- a line without words, or whose first word begins with a hash, is skipped
abbrev pub words_say : List (List ℕ) → Option (Result Statement ScriptKind)
words_say [] = None
words_say ([] ∷ words) = None
words_say ((b ∷ bs) ∷ words) = if b == 35 then None else Some (statement_of (b ∷ bs) words)

-- the statement of a line, where it is one, with its number
abbrev pub numbered_of : ℕ → Option (Result Statement ScriptKind) → Option Numbered
numbered_of line (Some (Ok statement)) = Some (record { line = line; says = statement })
numbered_of line says = None

-- the statements of the lines
abbrev pub statements_of : List (List ℕ) → List Numbered
statements_of lines = filter_map (λ l. numbered_of l.0 (words_say (words_of l.1))) (enumerate_from 1 lines)

-- Names

-- the name of a `thread` line
abbrev pub thread_name : Statement → Option (List ℕ)
thread_name (Thread name) = Some name
thread_name statement = None

-- the lock that a statement names
abbrev pub lock_name : Statement → Option (List ℕ)
lock_name (Act (Lock name)) = Some name
lock_name (Act (Unlock name)) = Some name
lock_name statement = None

-- the variable that a statement names
abbrev pub variable_name : Statement → Option (List ℕ)
variable_name (Act (Read name)) = Some name
variable_name (Act (Write name)) = Some name
variable_name (Act (WriteNumber name n)) = Some name
variable_name statement = None

-- the thread that a fork or a join names
abbrev pub other_name : Statement → Option (List ℕ)
other_name (Act (Fork name)) = Some name
other_name (Act (Join name)) = Some name
other_name statement = None

-- the name is one of the names
abbrev pub is_among : List ℕ → List (List ℕ) → Bool
is_among name names = is_numbered names name

-- the names, each at its first appearance alone
abbrev pub first_appearances : List (List ℕ) → List (List ℕ)
first_appearances names = fold with_one [] names

-- the names of one kind in the statements, numbered by first appearance
abbrev pub names_in : (Statement → Option (List ℕ)) → List Numbered → List (List ℕ)
names_in name_of statements = first_appearances (filter_map (λ s. name_of s.says) statements)

-- Faults of a line, seen with the tables of the lines before it

-- the blocks that are open after the statement, the innermost first
abbrev pub open_after : ℕ → Statement → List Block → List Block
open_after line (If n) blocks = record { line = line; takes_else = true } ∷ blocks
open_after line (Repeat count) blocks = record { line = line; takes_else = false } ∷ blocks
open_after line Else (block ∷ blocks) = record block { takes_else = false } ∷ blocks
open_after line End (block ∷ blocks) = blocks
open_after line statement blocks = blocks

-- the blocks that are open after the statements, the innermost first
abbrev pub open_blocks : List Numbered → List Block
open_blocks statements = fold (λ blocks s. open_after s.line s.says blocks) [] statements

-- the names and the open blocks of the statements so far
pub record Tables : Type 0 where
  pub threads : List (List ℕ)
  pub locks : List (List ℕ)
  pub variables : List (List ℕ)
  pub blocks : List Block

-- the names and the open blocks of the statements
abbrev pub tables_of : List Numbered → Tables
tables_of statements = record {
  threads = names_in thread_name statements;
  locks = names_in lock_name statements;
  variables = names_in variable_name statements;
  blocks = open_blocks statements;
}

-- the names with the one more that there may be, where it is new
abbrev pub with_optional : Option (List ℕ) → List (List ℕ) → List (List ℕ)
with_optional None names = names
with_optional (Some name) names = with_one names name

-- the tables with one more statement
abbrev pub grown : Tables → ℕ → Statement → Tables
grown tables line statement = record {
  threads = with_optional (thread_name statement) tables.threads;
  locks = with_optional (lock_name statement) tables.locks;
  variables = with_optional (variable_name statement) tables.variables;
  blocks = open_after line statement tables.blocks;
}

-- the innermost open block is an `if` that has no `else` yet
abbrev pub takes_else : List Block → Bool
takes_else [] = false
takes_else (block ∷ blocks) = block.takes_else

-- there is a name, and it is none of the names
abbrev pub is_new : Option (List ℕ) → List (List ℕ) → Bool
is_new None names = false
is_new (Some name) names = not (is_among name names)

-- a fault, where the test holds
abbrev pub fault_if : Bool → ℕ → ScriptKind → Option Fault
fault_if test line kind = if test then Some (record { line = line; kind = kind }) else None

-- the fault of a thread line: a block is open, or the thread has a body already
abbrev pub thread_fault : ℕ → Tables → List Block → List ℕ → Option Fault
thread_fault line tables (block ∷ blocks) name = Some (record { line = block.line; kind = OpenBlock })
thread_fault line tables [] name = fault_if (is_among name tables.threads) line TwiceNamed

-- the fault of a statement in its place among the blocks
abbrev pub place_fault : ℕ → Tables → Statement → Option Fault
place_fault line tables (Thread name) = thread_fault line tables tables.blocks name
place_fault line tables (If n) = fault_if (nat_le MAX_DEPTH (length tables.blocks)) line TooDeep
place_fault line tables (Repeat count) = fault_if (nat_le MAX_DEPTH (length tables.blocks)) line TooDeep
place_fault line tables Else = fault_if (not (takes_else tables.blocks)) line StrayEnd
place_fault line tables End = fault_if (nat_eq (length tables.blocks) 0) line StrayEnd
place_fault line tables (Act action) = None

-- the statement brings one name more than there may be
abbrev pub is_too_many : Tables → Statement → Bool
is_too_many tables statement =
    (is_new (thread_name statement) tables.threads && nat_le MAX_THREADS (length tables.threads))
    || (is_new (lock_name statement) tables.locks && nat_le MAX_LOCKS (length tables.locks))
    || (is_new (variable_name statement) tables.variables && nat_le MAX_VARS (length tables.variables))

-- the first fault of two
abbrev pub or_else : {X : Type 0} → Option X → Option X → Option X
or_else (Some x) other = Some x
or_else None other = other

-- the fault of a statement after the statements of the lines before
abbrev pub statement_fault : ℕ → Tables → Statement → Option Fault
statement_fault line tables statement =
    or_else (fault_if (is_none (thread_name statement) && nat_eq (length tables.threads) 0) line NoThread)
    (or_else (place_fault line tables statement)
    (fault_if (is_too_many tables statement) line TooManyNames))

-- the fault of what a line says, after the statements of the lines before
abbrev pub fault_of : ℕ → Tables → Option (Result Statement ScriptKind) → Option Fault
fault_of line tables None = None
fault_of line tables (Some (Err kind)) = Some (record { line = line; kind = kind })
fault_of line tables (Some (Ok statement)) = statement_fault line tables statement

-- the fault of the line at place k, with the lines before it
abbrev pub fault_at : List (List ℕ) → ℕ → Option Fault
fault_at lines k = fault_of (k + 1) (tables_of (statements_of (take k lines))) (words_say (words_of (unwrap_or (slice_get lines k) [])))

-- Blocks, and what they flatten to

-- the statements of a body as blocks
pub data Body : Type 0 where
  Empty : Body
  Simple : ℕ → Action → Body → Body
  Choice : ℕ → ℕ → Body → ℕ → Body → Body
  Either : ℕ → ℕ → Body → ℕ → Body → ℕ → Body → Body
  Times : ℕ → ℕ → Body → ℕ → Body → Body

-- a statement on its line
abbrev pub at_line : ℕ → Statement → Numbered
at_line line says = record { line = line; says = says }

-- the statements that spell a body
abbrev pub spelling : Body → List Numbered
spelling Empty = []
spelling (Simple line action rest) = at_line line (Act action) ∷ spelling rest
spelling (Choice line n body end rest) = at_line line (If n) ∷ (spelling body ++ (at_line end End ∷ spelling rest))
spelling (Either line n body middle other end rest) =
    at_line line (If n) ∷ (spelling body ++ (at_line middle Else ∷ (spelling other ++ (at_line end End ∷ spelling rest))))
spelling (Times line count body end rest) = at_line line (Repeat count) ∷ (spelling body ++ (at_line end End ∷ spelling rest))

-- the number of a name among the names
abbrev pub number_in : List (List ℕ) → List ℕ → ℕ
number_in names name = place_of names name

-- the instruction of an action, with the numbers of its names
abbrev pub instruction_of : Tables → Action → Instruction
instruction_of names (Lock name) = instruction.Do (op.Acquire (number_in names.locks name))
instruction_of names (Unlock name) = instruction.Do (op.Release (number_in names.locks name))
instruction_of names (Read name) = instruction.Do (op.Read (number_in names.variables name))
instruction_of names (Write name) = instruction.Do (op.Write (number_in names.variables name))
instruction_of names (WriteNumber name n) = instruction.WriteNumber (number_in names.variables name) n
instruction_of names (Add n) = instruction.Add n
instruction_of names (Fork name) = instruction.Do (op.Fork (number_in names.threads name))
instruction_of names (Join name) = instruction.Do (op.Join (number_in names.threads name))

-- a list that stands count times
abbrev pub times : {X : Type 0} → ℕ → List X → List X
times zero xs = []
times (suc count) xs = xs ++ times count xs

-- an instruction with its line
abbrev pub line_of : Instruction → ℕ → Line
line_of i line = record { instruction = i; number = line }

-- a body written out, with forward jumps
abbrev pub flattened : Tables → Body → List Line
flattened names Empty = []
flattened names (Simple line action rest) = line_of (instruction_of names action) line ∷ flattened names rest
flattened names (Choice line n body end rest) =
    let inside = flattened names body in
    line_of (instruction.If n (length inside)) line ∷ (inside ++ flattened names rest)
flattened names (Either line n body middle other end rest) =
    let inside = flattened names body in
    let otherwise = flattened names other in
    line_of (instruction.If n (length inside + 1)) line
    ∷ (inside ++ (line_of (instruction.Jump (length otherwise)) middle ∷ (otherwise ++ flattened names rest)))
flattened names (Times line count body end rest) = times count (flattened names body) ++ flattened names rest

-- a thread of the text: the line of its word, its name and its body
pub record ThreadText : Type 0 where
  pub line : ℕ
  pub name : List ℕ
  pub body : Body

-- the statements of the threads
abbrev pub threads_spelling : List ThreadText → List Numbered
threads_spelling threads = flat_map (λ t. at_line t.line (Thread t.name) ∷ spelling t.body) threads

-- The script of a text, and the faults that only the whole text has

-- how many forks of thread t the flattened bodies hold, from the lines up to this one
abbrev pub forks_up_to : Script → ℕ → ℕ → ℕ
forks_up_to script t line = sum_by (λ body. count_by (λ l. forks t l.instruction && nat_le l.number line) body) script.bodies

-- a block that is open at the end
abbrev pub open_fault : List Block → Option Fault
open_fault [] = None
open_fault (block ∷ blocks) = Some (record { line = block.line; kind = OpenBlock })

-- a fault of the kind on the line of a statement, where there is one
abbrev pub fault_on : ScriptKind → Option Numbered → Option Fault
fault_on kind (Some s) = Some (record { line = s.line; kind = kind })
fault_on kind None = None

-- the first fork or join of a thread without a body
abbrev pub unknown_fault : List Numbered → Option Fault
unknown_fault statements = fault_on UnknownThread (find (λ s. is_new (other_name s.says) (names_in thread_name statements)) statements)

-- the first thread with whose body the size passes the limit
abbrev pub size_fault : ℕ → List ThreadText → List (List Line) → Option Fault
size_fault before (t ∷ threads) (body ∷ bodies) =
    if nat_lt MAX_INSTRUCTIONS (before + length body) then Some (record { line = t.line; kind = TooManyInstructions }) else size_fault (before + length body) threads bodies
size_fault before threads bodies = None

-- a fork of a thread that the flattened bodies up to its line fork twice
abbrev pub is_second_fork : Script → List (List ℕ) → ℕ → Statement → Bool
is_second_fork script threads line (Act (Fork name)) = nat_le 2 (forks_up_to script (number_in threads name) line)
is_second_fork script threads line statement = false

-- the first fork of a thread that the flattened bodies up to its line fork twice
abbrev pub forked_fault : Script → List Numbered → Option Fault
forked_fault script statements = fault_on ForkedTwice (find (λ s. is_second_fork script (names_in thread_name statements) s.line s.says) statements)

-- the faults that need no flattened body, and then those that need them
abbrev pub end_fault : List Numbered → Option Fault
end_fault statements = or_else (open_fault (open_blocks statements)) (unknown_fault statements)

-- the fault of the sizes, or else that of the forks
abbrev pub flat_fault : List Numbered → List ThreadText → Script → Option Fault
flat_fault statements threads script = or_else (size_fault 0 threads script.bodies) (forked_fault script statements)

-- no line of the text has a fault
abbrev pub IsClean : List ℕ → Type 0
IsClean text = (k : ℕ) → k < length (lines_of text) → fault_at (lines_of text) k ≡ None

-- the names of the three kinds, numbered by first appearance
abbrev pub names_of : List Numbered → NameLists
names_of statements = record {
  threads = names_in thread_name statements;
  locks = names_in lock_name statements;
  vars = names_in variable_name statements;
}

-- the threads of the text, their flattened bodies, and the names
pub record Spells (statements : List Numbered) (threads : List ThreadText) (script : Script) : Type 0 where
  pub spelled : statements ≡ threads_spelling threads
  pub bodies : script.bodies ≡ map (λ t. flattened (tables_of statements) t.body) threads
  pub locks : script.locks ≡ length (names_in lock_name statements)
  pub variables : script.variables ≡ length (names_in variable_name statements)
  pub names : script.names ≡ names_of statements

-- the text is in the grammar and within the limits, and this is its script
pub record Scripts (text : List ℕ) (script : Script) : Type 0 where
  pub clean : IsClean text
  pub threads : List ThreadText
  pub spells : Spells (statements_of (lines_of text)) threads script
  pub ends : end_fault (statements_of (lines_of text)) ≡ None
  pub flat : flat_fault (statements_of (lines_of text)) threads script ≡ None

-- the first line with a fault has this one
pub record FaultOnLine (text : List ℕ) (fault : Fault) : Type 0 where
  pub place : ℕ
  pub here : fault_at (lines_of text) place ≡ Some fault
  pub first : (k : ℕ) → k < place → fault_at (lines_of text) k ≡ None

-- no line has a fault, and the whole has this one
pub record FaultAtEnd (text : List ℕ) (fault : Fault) : Type 0 where
  pub clean : IsClean text
  pub here : end_fault (statements_of (lines_of text)) ≡ Some fault

-- only the flattened bodies have a fault
pub record FaultInBodies (text : List ℕ) (fault : Fault) : Type 0 where
  pub clean : IsClean text
  pub ends : end_fault (statements_of (lines_of text)) ≡ None
  pub threads : List ThreadText
  pub script : Script
  pub spells : Spells (statements_of (lines_of text)) threads script
  pub here : flat_fault (statements_of (lines_of text)) threads script ≡ Some fault

-- the first fault of the text
abbrev pub FirstFault : List ℕ → Fault → Type 0
FirstFault text fault = FaultOnLine text fault ⊎ (FaultAtEnd text fault ⊎ FaultInBodies text fault)
