-- Why an input is not read. Ended says that the source is at its end.
use Rattle.std.specs.Prelude.{◌≡◌, ◌≤◌, ℕ, List, [], length, Result, Err}
use Rattle.sp_base.specs.declared.limits.TheConstants.{MAX_INPUT}
use Rattle.trace_laws.specs.Names.{NameLists}
use Rattle.std_text.specs.Refusal.{LineFault, Refusal, refusal_of}
use Rattle.std_text.specs.declared.fault.ReadFault.{ReadFault}
use Rattle.std_text.specs.declared.fault.ReadFault.TheVariants as read
use Rattle.script_machine.specs.ScriptText.{FirstFault}
use Rattle.intake.specs.declared.fault.IntakeFault.{IntakeFault}
use Rattle.intake.specs.declared.fault.IntakeFault.TheVariants.{Text, Script, Read, OutOfMemory}
use Rattle.intake.specs.Lengths.{IsTooLong}
use Rattle.intake.specs.TraceTexts.{IsKnownFault, HasNoFault}

-- the refusal that a fault and a holder's name tell
abbrev pub refusal_with : LineFault → List ℕ → Refusal
refusal_with f holder = record { line = f.line; kind = f.kind; holder = holder }

-- the fault tells that of a reader, with the name that its holder has, unless memory ran out
abbrev pub TellsFault : NameLists → ReadFault → IntakeFault → Type 0
TellsFault names (read.Text e) (Text f holder) = refusal_with f holder ≡ refusal_of names e
TellsFault names e OutOfMemory = Unit {0}
TellsFault names e f = ⊥

-- the text is refused as the fault tells, unless memory ran out
abbrev pub TellsRefusal : {A : Type 0} → Result A Refusal → IntakeFault → Type 0
TellsRefusal read (Text f holder) = read ≡ Err (refusal_with f holder)
TellsRefusal read OutOfMemory = Unit {0}
TellsRefusal read f = ⊥

-- a fault while a trace was read
abbrev pub FailsToReadTrace : Type 0 → IntakeFault → List ℕ → Type 0
FailsToReadTrace Ended (Text f holder) input = IsKnownFault Ended input (refusal_with f holder)
FailsToReadTrace Ended Read input = HasNoFault input
FailsToReadTrace Ended OutOfMemory input = Unit {0}
FailsToReadTrace Ended f input = ⊥

-- a fault while all of a source was gathered
abbrev pub FailsToGather : IntakeFault → List ℕ → Type 0
FailsToGather (Text f holder) input = IsTooLong input f × (holder ≡ [])
FailsToGather Read input = length input ≤ MAX_INPUT
FailsToGather OutOfMemory input = Unit {0}
FailsToGather f input = ⊥

-- a fault of a script, or want of memory
abbrev pub FailsToScript : IntakeFault → List ℕ → Type 0
FailsToScript (Script f) text = FirstFault text f
FailsToScript OutOfMemory text = Unit {0}
FailsToScript f text = ⊥

-- a fault while scripts were read: of all that was gathered, or of its text
abbrev pub FailsToReadScript : Type 0 → IntakeFault → List ℕ → Type 0
FailsToReadScript Ended (Script f) input = (length input ≤ MAX_INPUT) × FirstFault input f × Ended
FailsToReadScript Ended f input = FailsToGather f input
