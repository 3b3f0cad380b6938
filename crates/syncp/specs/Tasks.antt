-- What the program is asked to do, and what that makes of an input. Ended says that the source is at its end.
use Rattle.std.specs.Prelude.{◌≡◌, ◌⊎◌, ℕ, Bool, List, [], Option, Some, MatchBool}
use Rattle.sp_base.specs.Moves.{IsFront}
use Rattle.syncp.specs.declared.outcome.Fault.{Fault}
use Rattle.syncp.specs.declared.outcome.Fault.TheVariants.{TooManyPatterns}

-- A mode with what it is asked for, as the relations that it has between inputs and outputs.
pub record Task : Type 1 where
  -- a source is read
  pub reads : Bool
  -- an input in the grammar may come to too many patterns, since they are those of a run that is recorded
  pub passes : Bool
  -- the input is in the grammar
  pub Accepts : List ℕ → Type 0
  -- the output for an input, and whether it has a finding
  pub Gives : List ℕ → List ℕ → Bool → Type 0
  -- what stands in place of the output for an input where there are too many patterns, if anything does
  pub Cuts : List ℕ → List ℕ → Type 0
  -- no fault is known within the bytes so far
  pub Unfaulted : List ℕ → Type 0
  -- the input is refused with a fault, and nothing is written
  pub Refuses : Type 0 → Fault → List ℕ → Type 0

-- the input is in the grammar of the task
abbrev pub IsAccepted : Task → List ℕ → Type 0
IsAccepted task input = task.Accepts input

-- the output for an input, and whether it has a finding
abbrev pub IsOutputOf : Task → List ℕ → List ℕ → Bool → Type 0
IsOutputOf task input text found = task.Gives input text found

-- what may be written for an input: its output, or what stands in its place where there are too many patterns
abbrev pub MayWrite : Task → List ℕ → List ℕ → Type 0
MayWrite task input text = ((found : Bool) × task.Gives input text found) ⊎ task.Cuts input text

-- a front of what may be written
abbrev pub IsFrontOf : Task → List ℕ → List ℕ → Type 0
IsFrontOf task input text = (whole : List ℕ) × MayWrite task input whole × IsFront text whole

-- no fault is known within the bytes so far
abbrev pub HasNoFaultIn : Task → List ℕ → Type 0
HasNoFaultIn task input = task.Unfaulted input

-- the input is refused with this fault
abbrev pub IsRefusedIn : Task → Type 0 → Fault → List ℕ → Type 0
IsRefusedIn task Ended f input = task.Refuses Ended f input

-- there are too many patterns, and nothing is written, or what then stands in place of the output
abbrev pub IsCut : Task → Type 0 → List ℕ → List ℕ → Type 0
IsCut task Ended input text = (IsRefusedIn task Ended TooManyPatterns input × (text ≡ [])) ⊎ (task.Cuts input text × Ended)

-- the input is refused with this fault, and what is written then
abbrev pub IsRefusalOf : Task → Type 0 → Fault → List ℕ → List ℕ → Type 0
IsRefusalOf task Ended TooManyPatterns input text = IsCut task Ended input text
IsRefusalOf task Ended f input text = IsRefusedIn task Ended f input × (text ≡ [])

-- where the task reads a source, it is at its end, as Ended says
abbrev pub HasRead : Task → Type 0 → Type 0
HasRead task Ended = MatchBool task.reads Ended (Unit {0})

-- where the task reads a source, the input is all that the source has
abbrev pub HasInput : Task → Option (List ℕ) → List ℕ → Type 0
HasInput task left input = MatchBool task.reads (left ≡ Some input) (Unit {0})
