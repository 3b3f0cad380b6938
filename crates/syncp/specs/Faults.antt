-- Faults of the program, and their lines.
use Rattle.std.specs.Prelude.{ℕ, List, ◌++◌, codes}
use Rattle.std.specs.Fmt.{decimal}
use Rattle.std_text.specs.declared.fault.StdKind.{StdKind}
use Rattle.std_text.specs.declared.fault.StdKind.TheVariants.{LineTooLong, NoBar, BadName, UnknownOperation, BadOperand, InputTooLong, TooManyEvents, TooManyThreads, TooManyLocks, TooManyVars, LockHeld, Reentrant, NotHeld, ForkLate, ForkTwice, SelfThread, AfterJoin}
use Rattle.syncp.specs.declared.outcome.Fault.{Fault}
use Rattle.script_machine.specs.declared.fault.ScriptKind.{ScriptKind}
use Rattle.intake.specs.declared.fault.IntakeFault.{IntakeFault}
use Rattle.intake.specs.declared.fault.IntakeFault.TheVariants as intake
use Rattle.script_machine.specs.declared.fault.ScriptKind.TheVariants as script
use Rattle.syncp.specs.declared.outcome.Fault.TheVariants.{Text, Script, NotAStep, TooManyPatterns, NoFinding, Read, Write, OutOfMemory}

-- the program's fault for one of reading
abbrev pub fault_of : IntakeFault → Fault
fault_of (intake.Text f holder) = Text f holder
fault_of (intake.Script f) = Script f
fault_of intake.Read = Read
fault_of intake.OutOfMemory = OutOfMemory

-- the number and the name of a kind, with a space where the holder's name follows
abbrev pub kind_text : StdKind → List ℕ
kind_text LineTooLong = codes "1 LineTooLong"
kind_text NoBar = codes "2 NoBar"
kind_text BadName = codes "3 BadName"
kind_text UnknownOperation = codes "4 UnknownOperation"
kind_text BadOperand = codes "5 BadOperand"
kind_text InputTooLong = codes "6 InputTooLong"
kind_text TooManyEvents = codes "7 TooManyEvents"
kind_text TooManyThreads = codes "8 TooManyThreads"
kind_text TooManyLocks = codes "9 TooManyLocks"
kind_text TooManyVars = codes "10 TooManyVars"
kind_text (LockHeld t) = codes "11 LockHeld "
kind_text Reentrant = codes "12 Reentrant"
kind_text NotHeld = codes "13 NotHeld"
kind_text ForkLate = codes "14 ForkLate"
kind_text ForkTwice = codes "15 ForkTwice"
kind_text SelfThread = codes "16 SelfThread"
kind_text AfterJoin = codes "17 AfterJoin"

-- the number and the name of a kind of fault that a script has
abbrev pub script_kind_text : ScriptKind → List ℕ
script_kind_text script.UnknownWord = codes "21 UnknownWord"
script_kind_text script.Operand = codes "22 Operand"
script_kind_text script.Number = codes "23 Number"
script_kind_text script.NoThread = codes "24 NoThread"
script_kind_text script.TwiceNamed = codes "25 TwiceNamed"
script_kind_text script.UnknownThread = codes "26 UnknownThread"
script_kind_text script.ForkedTwice = codes "27 ForkedTwice"
script_kind_text script.OpenBlock = codes "28 OpenBlock"
script_kind_text script.StrayEnd = codes "29 StrayEnd"
script_kind_text script.TooDeep = codes "30 TooDeep"
script_kind_text script.TooManyInstructions = codes "31 TooManyInstructions"
script_kind_text script.TooManyNames = codes "32 TooManyNames"

-- the line of a fault
abbrev pub fault_line : Fault → List ℕ
fault_line (Text f holder) = codes "line " ++ decimal f.line ++ codes " fault " ++ kind_text f.kind ++ holder ++ codes "\n"
fault_line (Script f) = codes "line " ++ decimal f.line ++ codes " fault " ++ script_kind_text f.kind ++ codes "\n"
fault_line (NotAStep place) = codes "place " ++ decimal place ++ codes " fault 33 NotAStep\n"
fault_line TooManyPatterns = codes "fault 40 TooManyPatterns\n"
fault_line NoFinding = codes "fault 41 NoFinding\n"
fault_line Read = codes "read fault\n"
fault_line Write = codes "write fault\n"
fault_line OutOfMemory = codes "no memory\n"
