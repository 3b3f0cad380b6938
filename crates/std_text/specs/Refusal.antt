-- Why a text is refused.
use Rattle.std.specs.Prelude.{◌<◌, ℕ, List, [], length, slice_get, unwrap_or, Result, Ok, Err}
use Rattle.std.specs.declared.option.Option.{Option}
use Rattle.std.specs.declared.option.Option.TheVariants.{None, Some}
use Rattle.trace_laws.specs.Names.{NameLists}
use Rattle.std_text.specs.declared.fault.StdKind.{StdKind}
use Rattle.std_text.specs.declared.fault.StdKind.TheVariants.{LockHeld}

-- what a fault says: the line that is refused, and why
pub record LineFault : Type 0 where
  pub line : ℕ
  pub kind : StdKind

-- the first line that is refused, why, and the name of the thread that holds the lock, which is empty for every other kind
pub record Refusal : Type 0 where
  pub line : ℕ
  pub kind : StdKind
  pub holder : List ℕ

-- the name of the thread that holds the lock, and no bytes for every other kind
abbrev pub holder_name : NameLists → StdKind → List ℕ
holder_name names (LockHeld t) = unwrap_or (slice_get names.threads t) []
holder_name names _ = []

-- the number of the thread that holds the lock is given out
abbrev pub IsHolderGiven : NameLists → StdKind → Type 0
IsHolderGiven names (LockHeld t) = t < length names.threads
IsHolderGiven names _ = Unit {0}

-- a kind that names no thread
abbrev pub NamesNoHolder : StdKind → Type 0
NamesNoHolder (LockHeld t) = ⊥
NamesNoHolder _ = Unit {0}

-- a fault, with the name that the holder has among the names
abbrev pub refusal_of : NameLists → LineFault → Refusal
refusal_of names fault = record { line = fault.line; kind = fault.kind; holder = holder_name names fault.kind }

-- a step and then the next one, unless the first is refused
infixl 10 ◌>>=◌
abbrev pub ◌>>=◌ : {A B E : Type 0} → Result A E → (A → Result B E) → Result B E
(Ok x) >>= f = f x
(Err e) >>= f = Err e

-- what there is, or else the refusal
abbrev pub or_refused : {A E : Type 0} → E → Option A → Result A E
or_refused e None = Err e
or_refused e (Some x) = Ok x
