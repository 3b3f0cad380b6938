-- Laws over all runs of all scripts.
use Rattle.std.specs.Prelude.{◌≡◌, ℕ, ◌≤◌, List, length, map}
use Rattle.trace_laws.specs.Event.{Event}
use Rattle.trace_laws.specs.Trace.{Lawful}
use Rattle.trace_laws.specs.Locations.{DoTheSame}
use Rattle.script_machine.specs.Machine.{Script, State, Taken, Run, LegalRun, ForksOnce, start, size_of}
use Rattle.script_machine.specs.OfTrace.{IsFirstNoStep}
use Rattle.script_machine.specs.ScriptText.{Scripts, FirstFault}
use Rattle.script_machine.specs.declared.fault.ScriptFault.{ScriptFault as Fault}

-- a legal run has at most as many events as the script has instructions
abbrev pub SizeLaw : Type 0
SizeLaw = (script : Script) (trace : List Event) (end : State) → LegalRun script trace end → length trace ≤ size_of script

-- a legal run of a script that forks no thread twice is a lawful trace
abbrev pub LawfulLaw : Type 0
LawfulLaw = (script : Script) (trace : List Event) (end : State) → ForksOnce script → LegalRun script trace end → Lawful trace

-- the threads that step determine a run: its events, what they brought, and the state after it
abbrev pub DeterminedLaw : Type 0
DeterminedLaw = (script : Script) (one other : List Taken) (end end' : State) → Run script (start script) one end → Run script (start script) other end'
    → map (λ taken. taken.event.thread) one ≡ map (λ taken. taken.event.thread) other → (one ≡ other) × (end ≡ end')

-- a text has one script at most, and where it has one it has no fault
abbrev pub ExclusiveLaw : Type 0
ExclusiveLaw = (text : List ℕ) (script : Script) → Scripts text script
    → ((other : Script) → Scripts text other → script ≡ other) × ((fault : Fault) → FirstFault text fault → ⊥)

-- a text has one first fault at most
abbrev pub OneFaultLaw : Type 0
OneFaultLaw = (text : List ℕ) (fault other : Fault) → FirstFault text fault → FirstFault text other → fault ≡ other

-- A trace that does the same as a legal run has no first place that is no step, and two legal runs that do the same as one
-- trace are one.
abbrev pub OfLaw : Type 0
OfLaw = (script : Script) (trace run : List Event) (end : State) → LegalRun script run end → DoTheSame run trace
    → ((place : ℕ) → IsFirstNoStep script trace place → ⊥)
    × ((other : List Event) (end' : State) → LegalRun script other end' → DoTheSame other trace → (run ≡ other) × (end ≡ end'))
