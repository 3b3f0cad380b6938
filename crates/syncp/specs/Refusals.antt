-- Refusals of inputs that several modes read. Ended says that the source is at its end.
use Rattle.std.specs.Prelude.{◌≡◌, ◌≤◌, ℕ, List, [], length}
use Rattle.sp_base.specs.declared.limits.TheConstants.{MAX_INPUT}
use Rattle.std_text.specs.Framing.{Progress}
use Rattle.script_machine.specs.ScriptText.{FirstFault}
use Rattle.pattern_walk.specs.Listed.{HasMorePatterns}
use Rattle.intake.specs.Faults.{refusal_with}
use Rattle.intake.specs.Lengths.{IsTooLong}
use Rattle.intake.specs.TraceTexts.{IsStd, IsKnownFault}
use Rattle.syncp.specs.declared.outcome.Fault.{Fault}
use Rattle.syncp.specs.declared.outcome.Fault.TheVariants.{Text, Script, TooManyPatterns}

-- the whole input says a trace that has too many patterns
abbrev pub IsPastPatterns : Type 0 → List ℕ → ℕ → Type 0
IsPastPatterns Ended input size = (p : Progress) × IsStd input p × HasMorePatterns p.reading.events size × Ended

-- a trace in which patterns of at most a size are looked for is refused with this fault
abbrev pub IsRefusedTrace : ℕ → Type 0 → Fault → List ℕ → Type 0
IsRefusedTrace size Ended (Text f holder) input = IsKnownFault Ended input (refusal_with f holder)
IsRefusedTrace size Ended TooManyPatterns input = IsPastPatterns Ended input size
IsRefusedTrace size Ended f input = ⊥

-- a script is refused with this fault
abbrev pub IsRefusedScript : Type 0 → Fault → List ℕ → Type 0
IsRefusedScript Ended (Text f holder) input = IsTooLong input f × (holder ≡ [])
IsRefusedScript Ended (Script f) input = (length input ≤ MAX_INPUT) × FirstFault input f × Ended
IsRefusedScript Ended f input = ⊥
