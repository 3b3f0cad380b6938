-- What one line of a trace means after the lines before it: its event and its names, or why it is refused.
use Rattle.std.specs.Prelude.{◌≡◌, ℕ, ◌+◌, Bool, List, [], ◌∷◌, ◌++◌, not, length, nat_lt, nat_le, if◌then◌else◌, Result, Ok, Err}
use Rattle.std.specs.declared.option.Option.{Option}
use Rattle.std.specs.declared.option.Option.TheVariants.{None, Some}
use Rattle.sp_base.specs.declared.limits.TheConstants.{MAX_EVENTS, MAX_THREADS, MAX_LOCKS, MAX_VARS}
use Rattle.trace_laws.specs.Event.{Event}
use Rattle.trace_laws.specs.declared.event.Op.{Op}
use Rattle.trace_laws.specs.declared.event.Op.TheVariants as op
use Rattle.trace_laws.specs.declared.builder.LawFault.{LawFault}
use Rattle.trace_laws.specs.Names.{NameLists, number_of, with_name}
use Rattle.std_text.specs.declared.fields.Action.{Action}
use Rattle.std_text.specs.declared.fields.Action.TheVariants.{Read, Write, Acquire, Release, Fork, Join}
use Rattle.std_text.specs.declared.fault.StdKind.{StdKind}
use Rattle.std_text.specs.declared.fault.StdKind.TheVariants.{TooManyEvents, TooManyThreads, TooManyLocks, TooManyVars}
use Rattle.std_text.specs.Fields.{Parts, line_says}
use Rattle.std_text.specs.Law.{Tells, law_fault, kind_of}
use Rattle.std_text.specs.Refusal.{Refusal, refusal_of}
use Rattle.std_text.specs.Writing.{AreNamed}

-- the events and names of the lines so far, and the number of the next line
pub record Reading : Type 0 where
  pub events : List Event
  pub names : NameLists
  pub line : ℕ

-- the next line is refused, where a holder has the name that it has before the line
abbrev pub refused : {A : Type 0} → Reading → StdKind → Result A Refusal
refused r kind = Err (refusal_of r.names (record { line = r.line; kind = kind }))

-- the names after that of a thread
abbrev pub with_thread : NameLists → List ℕ → NameLists
with_thread names thread = record names { threads = with_name names.threads thread }

-- the names after that of a lock
abbrev pub with_lock : NameLists → List ℕ → NameLists
with_lock names lock = record names { locks = with_name names.locks lock }

-- the names after that of a variable
abbrev pub with_var : NameLists → List ℕ → NameLists
with_var names var = record names { vars = with_name names.vars var }

-- the names after that of an operand
abbrev pub with_operand : NameLists → Action → List ℕ → NameLists
with_operand names Read operand = with_var names operand
with_operand names Write operand = with_var names operand
with_operand names Acquire operand = with_lock names operand
with_operand names Release operand = with_lock names operand
with_operand names Fork operand = with_thread names operand
with_operand names Join operand = with_thread names operand

-- the names after those of a line, the thread's before the operand's
abbrev pub with_names : NameLists → Parts → NameLists
with_names names p = with_operand (with_thread names p.thread) p.action p.operand

-- whether the names that an action adds to are within their limit
abbrev pub fits : NameLists → Action → Bool
fits names Read = nat_le (length names.vars) MAX_VARS
fits names Write = nat_le (length names.vars) MAX_VARS
fits names Acquire = nat_le (length names.locks) MAX_LOCKS
fits names Release = nat_le (length names.locks) MAX_LOCKS
fits names Fork = nat_le (length names.threads) MAX_THREADS
fits names Join = nat_le (length names.threads) MAX_THREADS

-- the fault of the names that an action adds to, where they pass their limit
abbrev pub too_many : Action → StdKind
too_many Read = TooManyVars
too_many Write = TooManyVars
too_many Acquire = TooManyLocks
too_many Release = TooManyLocks
too_many Fork = TooManyThreads
too_many Join = TooManyThreads

-- the operation on an operand
abbrev pub op_on : NameLists → Action → List ℕ → Op
op_on names Read operand = op.Read (number_of names.vars operand)
op_on names Write operand = op.Write (number_of names.vars operand)
op_on names Acquire operand = op.Acquire (number_of names.locks operand)
op_on names Release operand = op.Release (number_of names.locks operand)
op_on names Fork operand = op.Fork (number_of names.threads operand)
op_on names Join operand = op.Join (number_of names.threads operand)

-- the event of a line
abbrev pub event_of : Reading → Parts → Event
event_of r p = record { thread = number_of r.names.threads p.thread; op = op_on (with_thread r.names p.thread) p.action p.operand; loc = p.location }

-- after the event of a line, or the law that it breaks
abbrev pub read_lawful : Reading → Parts → Option LawFault → Result Reading Refusal
read_lawful r p None = Ok (record { events = r.events ++ event_of r p ∷ []; names = with_names r.names p; line = r.line + 1 })
read_lawful r p (Some fault) = refused r (kind_of fault)

-- after a line of these parts: there have to be room for the event, for its thread's name and for its operand's, and then its laws have to hold
unfoldable pub read_parts : Reading → Parts → Result Reading Refusal
read_parts r p =
    if nat_le MAX_EVENTS (length r.events) then refused r TooManyEvents
    else if nat_lt MAX_THREADS (length (with_name r.names.threads p.thread)) then refused r TooManyThreads
    else if not (fits (with_names r.names p) p.action) then refused r (too_many p.action)
    else read_lawful r p (law_fault r.events (event_of r p))

-- the next line is skipped and counted
abbrev pub skipped : Reading → Reading
skipped r = record r { line = r.line + 1 }

-- after a line that says this
abbrev pub read_said : Reading → Result (Option Parts) StdKind → Result Reading Refusal
read_said r (Ok None) = Ok (skipped r)
read_said r (Ok (Some p)) = read_parts r p
read_said r (Err kind) = refused r kind

-- after a line that is not empty
abbrev pub read_event : Reading → List ℕ → Result Reading Refusal
read_event r content = read_said r (line_says content)

-- what a reading in code keeps: room for all events, names for all that they name, and the holders as they are computed
pub record IsKeptReading (capacity : ℕ) (events : List Event) (names : NameLists) : Type 0 where
  pub capacity_is : capacity ≡ MAX_EVENTS
  pub named : AreNamed names events
  pub tells : Tells events
