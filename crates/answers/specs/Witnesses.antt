-- The witness of a finding: the least reordering that leads to it.
use Rattle.std.specs.Prelude.{◌≡◌, ◌<◌, ◌≤◌, ◌-◌, ℕ, List, [], ◌∷◌, ◌++◌, map, Some, slice_get}
use Rattle.trace_laws.specs.Traces.{History}
use Rattle.trace_laws.specs.Names.{NameLists}
use Rattle.trace_laws.specs.Findings.{Found, FoundRace, FoundDeadlock}
use Rattle.trace_laws.specs.declared.finding.Finding.{Finding}
use Rattle.trace_laws.specs.declared.finding.Finding.TheVariants.{Race, Deadlock}
use Rattle.trace_laws.specs.Kept.{AreKept}
use Rattle.replayer.specs.Reorders.{IsLeastReordering}
use Rattle.replayer.specs.Replays.{along}
use Rattle.std_text.specs.Writing.{trace_text}
use Rattle.predictor.specs.Predictions.{ArePredictions, HasFewPatterns, count_of_findings}

-- a finding as the places that it leaves enabled, and its keep
pub record Target : Type 0 where
  pub picks : List ℕ
  pub keep : List ℕ

-- a race as such
abbrev pub race_target : FoundRace → Target
race_target r = record { picks = r.earlier ∷ r.later ∷ []; keep = r.keep }

-- a deadlock as such
abbrev pub deadlock_target : FoundDeadlock → Target
deadlock_target d = record { picks = d.picks; keep = d.keep }

-- a finding of code as such
abbrev pub target_of : Finding → Target
target_of (Race r keep) = record { picks = r.earlier ∷ r.later ∷ []; keep = keep }
target_of (Deadlock picks keep) = record { picks = picks; keep = keep }

-- the findings in the order of the report's lines: the races, then the deadlocks
abbrev pub targets : Found → List Target
targets found = map race_target found.races ++ map deadlock_target found.deadlocks

-- the finding of that number, which counts from 1 in the order of the report's lines
abbrev pub IsNumbered : Found → ℕ → Target → Type 0
IsNumbered found number target = (1 ≤ number) × (slice_get (targets found) (number - 1) ≡ Some target)

-- The places are those that the target's keep counts, in the order of the trace. They are a sync-preserving correct
-- reordering that leaves the target's places enabled, and each such reordering has all of them.
pub record IsWitnessOf (h : History) (target : Target) (places : List ℕ) : Type 0 where
  pub kept : AreKept h.events target.keep places
  pub least : IsLeastReordering h.events target.picks places

-- the text is that of the witness of the finding that has the number among those found
pub record WritesFinding (names : NameLists) (h : History) (found : Found) (number : ℕ) (text : List ℕ) : Type 0 where
  pub target : Target
  pub numbered : IsNumbered found number target
  pub places : List ℕ
  pub witness : IsWitnessOf h target places
  pub written : text ≡ trace_text names (along h.events places)

-- the text is that of the witness of a finding of the trace, which has that number, where the trace has not too many patterns
abbrev pub WritesWitness : NameLists → History → ℕ → ℕ → List ℕ → Type 0
WritesWitness names h size number text = (found : Found) × ArePredictions h size found × HasFewPatterns h.events size × WritesFinding names h found number text

-- the trace has a finding of that number
abbrev pub HasFinding : History → ℕ → ℕ → Type 0
HasFinding h size number = (found : Found) × ArePredictions h size found × (number ≤ count_of_findings found)

-- the trace has fewer findings
abbrev pub LacksFinding : History → ℕ → ℕ → Type 0
LacksFinding h size number = (found : Found) × ArePredictions h size found × (count_of_findings found < number)
