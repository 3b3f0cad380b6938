-- The statuses of faults.
use Rattle.std.specs.Prelude.{ℕ, Bool, true, false, if◌then◌else◌}
use Rattle.std_text.specs.declared.fault.StdKind.{StdKind}
use Rattle.std_text.specs.declared.fault.StdKind.TheVariants.{InputTooLong, TooManyEvents, TooManyThreads, TooManyLocks, TooManyVars}
use Rattle.script_machine.specs.declared.fault.ScriptKind.{ScriptKind}
use Rattle.script_machine.specs.declared.fault.ScriptKind.TheVariants.{TooManyInstructions, TooManyNames}
use Rattle.syncp.specs.declared.outcome.Fault.{Fault}
use Rattle.syncp.specs.declared.outcome.Fault.TheVariants.{Text, Script, NotAStep, TooManyPatterns, NoFinding, Read, Write, OutOfMemory}
use Rattle.syncp.specs.declared.outcome.Status.{Status}
use Rattle.syncp.specs.declared.outcome.Status.TheVariants.{Clean, Found, Usage, Refused, Limit, ReadFault, WriteFault, NoMemory}

-- the number of a status
abbrev pub code_of : Status → ℕ
code_of Clean = 0
code_of Found = 1
code_of Usage = 2
code_of Refused = 3
code_of Limit = 4
code_of ReadFault = 5
code_of WriteFault = 6
code_of NoMemory = 7

-- whether a text passes a limit
abbrev pub passes_limit : StdKind → Bool
passes_limit InputTooLong = true
passes_limit TooManyEvents = true
passes_limit TooManyThreads = true
passes_limit TooManyLocks = true
passes_limit TooManyVars = true
passes_limit kind = false

-- whether a script passes a limit
abbrev pub script_passes_limit : ScriptKind → Bool
script_passes_limit TooManyInstructions = true
script_passes_limit TooManyNames = true
script_passes_limit kind = false

-- the status of a refused input, by whether it passes a limit
abbrev pub refusal_status : Bool → Status
refusal_status passes = if passes then Limit else Refused

-- the status of a fault
abbrev pub status_of : Fault → Status
status_of (Text f holder) = refusal_status (passes_limit f.kind)
status_of (Script f) = refusal_status (script_passes_limit f.kind)
status_of (NotAStep place) = Refused
status_of TooManyPatterns = Limit
status_of NoFinding = Limit
status_of Read = ReadFault
status_of Write = WriteFault
status_of OutOfMemory = NoMemory
