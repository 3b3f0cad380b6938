-- What a run leaves. Ended says that the source is at its end where it is read, and ErrFailed that the count of faults of `err` rose.
use Rattle.std.specs.Prelude.{◌≡◌, ◌⊎◌, ℕ, Bool, true, false, List, []}
use Rattle.std.specs.declared.option.Option.{Option}
use Rattle.std.specs.declared.option.Option.TheVariants.{None, Some}
use Rattle.sp_base.specs.Moves.{IsFront}
use Rattle.command_words.specs.declared.words.Words.{Words}
use Rattle.syncp.specs.declared.outcome.Fault.{Fault}
use Rattle.syncp.specs.declared.outcome.Fault.TheVariants as fault
use Rattle.syncp.specs.declared.outcome.Status.{Status}
use Rattle.syncp.specs.declared.outcome.Status.TheVariants.{Clean, Found, Usage, Refused, Limit, ReadFault, WriteFault, NoMemory}
use Rattle.syncp.specs.Faults.{fault_line}
use Rattle.syncp.specs.Modes.{task_of}
use Rattle.syncp.specs.Statuses.{status_of}
use Rattle.syncp.specs.Tasks.{Task, IsOutputOf, IsFrontOf, HasNoFaultIn, IsRefusalOf, HasRead}

-- a line of `err` was written whole, or in part where its count of faults rose
abbrev pub TellsLine : Type 0 → Fault → List ℕ → Type 0
TellsLine ErrFailed f line = (line ≡ fault_line f) ⊎ (IsFront line (fault_line f) × ErrFailed)

-- the input is refused with a fault of the status, whose line is told; nothing is written to `out`, or where there are too many
-- patterns what then stands in place of the output
pub record RefusesWith (task : Task) (Ended ErrFailed : Type 0) (status : Status) (input text line : List ℕ) : Type 0 where
  pub cause : Fault
  pub known : IsRefusalOf task Ended cause input text
  pub status_is : status_of cause ≡ status
  pub told : TellsLine ErrFailed cause line

-- a status of a task, by what was read from the source and written to `out` and `err`
abbrev pub Means : Task → Type 0 → Type 0 → Status → List ℕ → List ℕ → List ℕ → Type 0
Means task Ended ErrFailed Clean input text line = IsOutputOf task input text false × Ended × (line ≡ [])
Means task Ended ErrFailed Found input text line = IsOutputOf task input text true × Ended × (line ≡ [])
Means task Ended ErrFailed Usage input text line = ⊥
Means task Ended ErrFailed Refused input text line = RefusesWith task Ended ErrFailed Refused input text line
Means task Ended ErrFailed Limit input text line = RefusesWith task Ended ErrFailed Limit input text line
Means task Ended ErrFailed ReadFault input text line = HasNoFaultIn task input × (text ≡ []) × TellsLine ErrFailed fault.Read line
Means task Ended ErrFailed WriteFault input text line = IsFrontOf task input text × Ended × TellsLine ErrFailed fault.Write line
Means task Ended ErrFailed NoMemory input text line = ((text ≡ []) ⊎ (IsFrontOf task input text × Ended)) × ((f : Fault) × IsFront line (fault_line f))

-- the same by the reading of the words; where they have none nothing is read or written to `out`, and `err` may have gained a text for the user
abbrev pub Leaves : Option Words → Type 0 → Type 0 → Status → List ℕ → List ℕ → List ℕ → Type 0
Leaves None Ended ErrFailed status input text line = ((status ≡ Usage) ⊎ (status ≡ NoMemory)) × (input ≡ []) × (text ≡ [])
Leaves (Some words) Ended ErrFailed status input text line = Means (task_of words) (HasRead (task_of words) Ended) ErrFailed status input text line

-- the whole output was written
abbrev pub IsDone : Status → Type 0
IsDone status = (status ≡ Clean) ⊎ (status ≡ Found)

-- the whole output was written, or memory ran out; where a run that was recorded may have too many patterns, or a limit was
-- passed
abbrev pub Answers : Bool → Status → Type 0
Answers true status = IsDone status ⊎ ((status ≡ NoMemory) ⊎ (status ≡ Limit))
Answers false status = IsDone status ⊎ (status ≡ NoMemory)

-- the task was answered
abbrev pub IsAnswered : Task → Status → Type 0
IsAnswered task status = Answers task.passes status

-- what a refusal told `err`, and its status: that of the fault, or that memory ran out before the line was told
abbrev pub TellsOf : Type 0 → Fault → Status → List ℕ → Type 0
TellsOf ErrFailed f status line = ((status ≡ status_of f) × TellsLine ErrFailed f line) ⊎ ((status ≡ NoMemory) × IsFront line (fault_line f))
