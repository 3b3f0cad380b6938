-- What is written of a trace is read again as the same trace.
use Rattle.std.specs.Prelude.{◌≡◌, ◌<◌, ◌≤◌, ◌^◌, ℕ, List, length, true, Some, slice_get, Ok}
use Rattle.sp_base.specs.declared.limits.TheConstants.{MAX_EVENTS, MAX_THREADS, MAX_LOCKS, MAX_VARS, MAX_INPUT}
use Rattle.trace_laws.specs.Event.{Event}
use Rattle.trace_laws.specs.Names.{NameLists, is_name}
use Rattle.trace_laws.specs.Trace.{Lawful}
use Rattle.std_text.specs.Framing.{Progress, start, after, closed}
use Rattle.std_text.specs.Refusal.{◌>>=◌}
use Rattle.std_text.specs.Writing.{name_at, word_of, operand_name, IsNamed, trace_text}

-- names that can be read: each of them is a name, no two are the same, and they are no more than the limit
pub record AreReadable (names : List (List ℕ)) (limit : ℕ) : Type 0 where
  pub valid : (n : ℕ) → n < length names → is_name (name_at names n) ≡ true
  pub distinct : (m n : ℕ) → m < length names → n < length names → name_at names m ≡ name_at names n → m ≡ n
  pub few : length names ≤ limit

-- an event that can be written: all that it names has a name, and its location is a number of 32 bits
pub record IsWritable (names : NameLists) (e : Event) : Type 0 where
  pub named : IsNamed names e
  pub location : e.loc < (2 ^ 32)

-- a trace within the limits whose text is within the limit
pub record HasText (names : NameLists) (events : List Event) : Type 0 where
  pub lawful : Lawful events
  pub size : length events ≤ MAX_EVENTS
  pub threads : AreReadable names.threads MAX_THREADS
  pub locks : AreReadable names.locks MAX_LOCKS
  pub vars : AreReadable names.vars MAX_VARS
  pub each : (i : ℕ) (e : Event) → slice_get events i ≡ Some e → IsWritable names e
  pub short : length (trace_text names events) ≤ MAX_INPUT

-- two events say the same, each with names of its own
pub record SaysSame (names : NameLists) (e : Event) (others : NameLists) (f : Event) : Type 0 where
  pub named : IsNamed others f
  pub thread : name_at others.threads f.thread ≡ name_at names.threads e.thread
  pub word : word_of f.op ≡ word_of e.op
  pub operand : operand_name others f.op ≡ operand_name names e.op
  pub loc : f.loc ≡ e.loc

-- the same events with the same names, whatever numbers the names have
pub record AreSame (names : NameLists) (events : List Event) (others : NameLists) (read : List Event) : Type 0 where
  pub size : length read ≡ length events
  pub each : (i : ℕ) (e f : Event) → slice_get events i ≡ Some e → slice_get read i ≡ Some f → SaysSame names e others f

-- the text of a trace is read as the same events with the same names
abbrev pub WrittenIsRead : Type 0
WrittenIsRead = (names : NameLists) (events : List Event) → HasText names events
    → (p : Progress) × ((after start (trace_text names events) >>= closed) ≡ Ok p) × AreSame names events p.reading.names p.reading.events
