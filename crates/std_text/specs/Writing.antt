-- What is written for the events of a trace.
use Rattle.std.specs.Prelude.{◌≡◌, ◌<◌, ℕ, List, [], ◌++◌, length, codes, Some, slice_get, unwrap_or, flat_map}
use Rattle.std.specs.Fmt.{decimal}
use Rattle.trace_laws.specs.Event.{Event}
use Rattle.trace_laws.specs.declared.event.Op.{Op}
use Rattle.trace_laws.specs.declared.event.Op.TheVariants.{Read, Write, Acquire, Release, Fork, Join}
use Rattle.trace_laws.specs.Names.{NameLists}

-- the name of a number
abbrev pub name_at : List (List ℕ) → ℕ → List ℕ
name_at names n = unwrap_or (slice_get names n) []

-- the word of an operation
abbrev pub word_of : Op → List ℕ
word_of (Read x) = codes "r"
word_of (Write x) = codes "w"
word_of (Acquire l) = codes "acq"
word_of (Release l) = codes "rel"
word_of (Fork u) = codes "fork"
word_of (Join u) = codes "join"

-- the name of the variable, the lock or the thread that an operation is on
abbrev pub operand_name : NameLists → Op → List ℕ
operand_name names (Read x) = name_at names.vars x
operand_name names (Write x) = name_at names.vars x
operand_name names (Acquire l) = name_at names.locks l
operand_name names (Release l) = name_at names.locks l
operand_name names (Fork u) = name_at names.threads u
operand_name names (Join u) = name_at names.threads u

-- the variable, the lock or the thread that an operation is on has a name
abbrev pub IsOperandNamed : NameLists → Op → Type 0
IsOperandNamed names (Read x) = x < length names.vars
IsOperandNamed names (Write x) = x < length names.vars
IsOperandNamed names (Acquire l) = l < length names.locks
IsOperandNamed names (Release l) = l < length names.locks
IsOperandNamed names (Fork u) = u < length names.threads
IsOperandNamed names (Join u) = u < length names.threads

-- all that a call of a thread names has a name
pub record IsCallNamed (names : NameLists) (t : ℕ) (op : Op) : Type 0 where
  pub thread : t < length names.threads
  pub operand : IsOperandNamed names op

-- all that an event names has a name
abbrev pub IsNamed : NameLists → Event → Type 0
IsNamed names event = IsCallNamed names event.thread event.op

-- all that the events name has a name
abbrev pub AreNamed : NameLists → List Event → Type 0
AreNamed names events = (i : ℕ) (e : Event) → slice_get events i ≡ Some e → IsNamed names e

-- an operation: word(operand)
abbrev pub op_text : NameLists → Op → List ℕ
op_text names op = word_of op ++ codes "(" ++ operand_name names op ++ codes ")"

-- the call of a thread: thread|word(operand)
abbrev pub call_text : NameLists → ℕ → Op → List ℕ
call_text names t op = name_at names.threads t ++ codes "|" ++ op_text names op

-- the line of an event: thread|word(operand)|location
abbrev pub event_line : NameLists → Event → List ℕ
event_line names event = call_text names event.thread event.op ++ codes "|" ++ decimal event.loc ++ codes "\n"

-- the text of a trace: the lines of its events
abbrev pub trace_text : NameLists → List Event → List ℕ
trace_text names events = flat_map (event_line names) events
