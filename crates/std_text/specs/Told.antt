-- What a reader says of the text that it was fed.
use Rattle.std.specs.Prelude.{◌≡◌, Bool, Result, Ok, Err}
use Rattle.std.specs.declared.option.Option.{Option}
use Rattle.std.specs.declared.option.Option.TheVariants.{None, Some}
use Rattle.trace_laws.specs.Names.{NameLists}
use Rattle.std_text.specs.Refusal.{Refusal, refusal_of, IsHolderGiven}
use Rattle.std_text.specs.declared.fault.ReadFault.{ReadFault}
use Rattle.std_text.specs.declared.fault.ReadFault.TheVariants.{Text, OutOfMemory}
use Rattle.std_text.specs.Framing.{Progress}

-- the text is refused for this fault, whose holder has its name among the names; want of memory says nothing of the text
abbrev pub Failed : {A : Type 0} → ReadFault → NameLists → Result A Refusal → Type 0
Failed (Text fault) names read = (read ≡ Err (refusal_of names fault)) × IsHolderGiven names fault.kind
Failed OutOfMemory names read = Unit {0}

-- the number of the holder that a fault names is given out
abbrev pub IsHolderKnown : NameLists → ReadFault → Type 0
IsHolderKnown names (Text fault) = IsHolderGiven names fault.kind
IsHolderKnown names OutOfMemory = Unit {0}

-- a step of the code gave new, where the text gives read; the names are those after it
abbrev pub Steps : {U A : Type 0} → Result U ReadFault → NameLists → A → Result A Refusal → Type 0
Steps (Ok u) names new read = read ≡ Ok new
Steps (Err fault) names new read = Failed fault names read

-- a reader: how far it came, or the fault that it answers; the names so far; and whether the text has ended
pub record Told : Type 0 where
  pub read : Result Progress ReadFault
  pub names : NameLists
  pub closed : Bool

-- the reader is now where the text gives read
abbrev pub Gives : Result Progress ReadFault → NameLists → Result Progress Refusal → Type 0
Gives (Ok p) names read = read ≡ Ok p
Gives (Err fault) names read = Failed fault names read

-- from where the reader was, a step of the text leads to where it is now
abbrev pub ReadsFrom : Result Progress ReadFault → NameLists → (Progress → Result Progress Refusal) → Told → Type 0
ReadsFrom (Ok p) names step new = Gives new.read new.names (step p)
ReadsFrom (Err fault) names step new = (new.read ≡ Err fault) × (new.names ≡ names)

-- a reader went on by a step of the text; after a fault it stays as it is
abbrev pub ReadsOn : Told → (Progress → Result Progress Refusal) → Told → Type 0
ReadsOn old step new = ReadsFrom old.read old.names step new

-- how far a reader came, if it did not fail
abbrev pub read_of : Option ReadFault → Progress → Result Progress ReadFault
read_of None p = Ok p
read_of (Some fault) p = Err fault

-- after a fault the number of the holder that it names is given out
abbrev pub KnowsHolder : Option ReadFault → NameLists → Type 0
KnowsHolder None names = Unit {0}
KnowsHolder (Some fault) names = IsHolderKnown names fault

-- what a call answers
abbrev pub answer_of : Result Progress ReadFault → Result (Unit {0}) ReadFault
answer_of (Ok p) = Ok tt
answer_of (Err fault) = Err fault
