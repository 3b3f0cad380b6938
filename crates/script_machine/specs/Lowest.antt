-- Runs in which each step is of the lowest thread that can step.
use Rattle.std.specs.Prelude.{◌≡◌, ℕ, ◌<◌, List, [], ◌∷◌}
use Rattle.trace_laws.specs.Event.{Event}
use Rattle.script_machine.specs.Machine.{Script, State, Taken, Step, CanStep, events, start}

-- no thread below this one can step
abbrev pub NoneBelow : Script → State → ℕ → Type 0
NoneBelow script s t = (u : ℕ) → u < t → CanStep script s u → ⊥

-- these are steps from s to s', one after the other, each of the lowest thread that can step
abbrev pub LowestRun : Script → State → List Taken → State → Type 0
LowestRun script s [] s' = s ≡ s'
LowestRun script s (taken ∷ more) s' = (mid : State) × Step script s taken mid × NoneBelow script s taken.event.thread × LowestRun script mid more s'

-- the events are those of such a run from the start, which leads to the state
abbrev pub LegalLowestRun : Script → List Event → State → Type 0
LegalLowestRun script trace s = (takens : List Taken) × (trace ≡ events takens) × LowestRun script (start script) takens s
