-- What is read from an input. Ended says that the source is at its end.
use Rattle.std.specs.Prelude.{◌≡◌, ◌≤◌, ℕ, List, length, Result, Ok, Err}
use Rattle.sp_base.specs.declared.limits.TheConstants.{MAX_INPUT}
use Rattle.trace_laws.specs.Names.{NameLists}
use Rattle.trace_laws.specs.Traces.{History}
use Rattle.std_text.specs.Framing.{Progress, start, after}
use Rattle.std_text.specs.Refusal.{Refusal}
use Rattle.std_text.specs.Told.{Told}
use Rattle.script_machine.specs.Machine.{Script}
use Rattle.script_machine.specs.ScriptText.{Scripts}
use Rattle.intake.specs.declared.fault.IntakeFault.{IntakeFault}
use Rattle.intake.specs.Faults.{TellsRefusal, FailsToReadTrace}
use Rattle.intake.specs.TraceTexts.{history_of, IsStd}

-- a reader came to where exactly these bytes lead
abbrev pub HasCome : Told → List ℕ → Type 0
HasCome told input = (p : Progress) × (after start input ≡ Ok p) × (told.read ≡ Ok p)

-- where the text gives read, a reader went on to it, or the fault tells why the text is refused there
abbrev pub GoesOn : Result Progress Refusal → Told → Result (Unit {0}) IntakeFault → Type 0
GoesOn read new (Ok u) = (p : Progress) × (read ≡ Ok p) × (new.read ≡ Ok p)
GoesOn read new (Err fault) = TellsRefusal read fault

-- where the text gives read at its end, the answer is its trace and names, or the fault tells why the text is refused
abbrev pub Ends : Result Progress Refusal → Result (History × NameLists) IntakeFault → Type 0
Ends read (Ok answer) = (p : Progress) × (read ≡ Ok p) × (answer.0 ≡ history_of p) × (answer.1 ≡ p.reading.names)
Ends read (Err fault) = TellsRefusal read fault

-- a reading of all the input, or a fault
abbrev pub IsReadFrom : Type 0 → Result (History × NameLists) IntakeFault → List ℕ → Type 0
IsReadFrom Ended (Ok read) input = (p : Progress) × IsStd input p × (read.0 ≡ history_of p) × (read.1 ≡ p.reading.names)
IsReadFrom Ended (Err fault) input = FailsToReadTrace Ended fault input

-- where a text gives read, the answer is its trace, or the fault tells why the text is refused
abbrev pub ReadsTrace : Result Progress Refusal → Result History IntakeFault → Type 0
ReadsTrace read (Ok trace) = (p : Progress) × (read ≡ Ok p) × (trace ≡ history_of p)
ReadsTrace read (Err f) = TellsRefusal read f

-- the input is the text of the script, and has no more bytes than an input may have
pub record IsScriptOf (input : List ℕ) (script : Script) : Type 0 where
  pub few : length input ≤ MAX_INPUT
  pub scripts : Scripts input script
