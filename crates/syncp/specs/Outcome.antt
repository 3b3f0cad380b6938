-- What an outcome says of what was read and written. Ended says that the source is at its end.
use Rattle.std.specs.Prelude.{◌≡◌, ◌⊎◌, ℕ, Bool, true, false, List, [], Result, Ok, Err}
use Rattle.sp_base.specs.Moves.{IsFront}
use Rattle.syncp.specs.declared.outcome.Fault.{Fault}
use Rattle.syncp.specs.declared.outcome.Fault.TheVariants.{Text, Script, NotAStep, TooManyPatterns, NoFinding, Read, Write, OutOfMemory}
use Rattle.syncp.specs.declared.outcome.Outcome.{Outcome}
use Rattle.syncp.specs.declared.outcome.Outcome.TheVariants.{Done, Refused}
use Rattle.syncp.specs.Tasks.{Task, IsOutputOf, IsFrontOf, HasNoFaultIn, IsRefusedIn, IsCut}

-- a fault before anything was written
abbrev pub FailsToRead : Task → Type 0 → Fault → List ℕ → Type 0
FailsToRead task Ended (Text f holder) input = IsRefusedIn task Ended (Text f holder) input
FailsToRead task Ended (Script f) input = IsRefusedIn task Ended (Script f) input
FailsToRead task Ended (NotAStep place) input = IsRefusedIn task Ended (NotAStep place) input
FailsToRead task Ended TooManyPatterns input = IsRefusedIn task Ended TooManyPatterns input
FailsToRead task Ended NoFinding input = IsRefusedIn task Ended NoFinding input
FailsToRead task Ended Read input = HasNoFaultIn task input
FailsToRead task Ended Write input = ⊥
FailsToRead task Ended OutOfMemory input = Unit {0}

-- the output for an input with whether it has a finding, or the fault because of which nothing is written
abbrev pub Makes : Task → Type 0 → Result (List ℕ × Bool) Fault → List ℕ → Type 0
Makes task Ended (Ok answer) input = IsOutputOf task input answer.0 answer.1
Makes task Ended (Err fault) input = FailsToRead task Ended fault input

-- What was written of an output, and how the call ended: all was written, or a front of it and then came a fault. Without an
-- output nothing was written.
abbrev pub EndsAnswer : Result (List ℕ × Bool) Fault → Outcome → List ℕ → Type 0
EndsAnswer (Ok answer) outcome text = ((outcome ≡ Done answer.1) × (text ≡ answer.0)) ⊎ (((outcome ≡ Refused Write) ⊎ (outcome ≡ Refused OutOfMemory)) × IsFront text answer.0)
EndsAnswer (Err fault) outcome text = (outcome ≡ Refused fault) × (text ≡ [])

-- what was read and written explains the outcome of a task
abbrev pub Explains : Task → Type 0 → Outcome → List ℕ → List ℕ → Type 0
Explains task Ended (Done found) input text = IsOutputOf task input text found
Explains task Ended (Refused (Text f holder)) input text = IsRefusedIn task Ended (Text f holder) input × (text ≡ [])
Explains task Ended (Refused (Script f)) input text = IsRefusedIn task Ended (Script f) input × (text ≡ [])
Explains task Ended (Refused (NotAStep place)) input text = IsRefusedIn task Ended (NotAStep place) input × (text ≡ [])
Explains task Ended (Refused TooManyPatterns) input text = IsCut task Ended input text
Explains task Ended (Refused NoFinding) input text = IsRefusedIn task Ended NoFinding input × (text ≡ [])
Explains task Ended (Refused Read) input text = HasNoFaultIn task input × (text ≡ [])
Explains task Ended (Refused Write) input text = IsFrontOf task input text × Ended
Explains task Ended (Refused OutOfMemory) input text = (text ≡ []) ⊎ (IsFrontOf task input text × Ended)

-- the whole output was written
abbrev pub IsDone : Outcome → Type 0
IsDone (Done found) = Unit {0}
IsDone (Refused fault) = ⊥

-- the whole output was written, or memory ran out; where a run that was recorded may have too many patterns, or it has
abbrev pub Answers : Bool → Outcome → Type 0
Answers true outcome = IsDone outcome ⊎ ((outcome ≡ Refused OutOfMemory) ⊎ (outcome ≡ Refused TooManyPatterns))
Answers false outcome = IsDone outcome ⊎ (outcome ≡ Refused OutOfMemory)

-- the task was answered
abbrev pub IsAnswered : Task → Outcome → Type 0
IsAnswered task outcome = Answers task.passes outcome
