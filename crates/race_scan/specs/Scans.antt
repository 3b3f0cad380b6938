-- What a scan for races answers.
use Rattle.std.specs.Prelude.{◌≡◌, ◌<◌, ◌≤◌, ◌+◌, ℕ, List, length, Option, Some, None}
use Rattle.trace_laws.specs.Event.{Event}
use Rattle.trace_laws.specs.Traces.{History}
use Rattle.trace_laws.specs.Reordering.{Accesses}
use Rattle.trace_laws.specs.Findings.{Races, FoundRace, IsFoundRace, by_reorderings}
use Rattle.trace_laws.specs.declared.finding.Race.{Race}
use Rattle.race_scan.specs.Partners.{NoRaceBelow}

-- a trace, a range of variables, and the place up to which the races were given
pub record Scan : Type 0 where
  pub trace : History
  pub from : ℕ
  pub to : ℕ
  pub passed : ℕ

-- the place accesses a variable of the range
pub record IsInRange (trace : List Event) (from to place : ℕ) : Type 0 where
  pub var : ℕ
  pub accesses : Accesses trace place var
  pub least : from ≤ var
  pub below : var < to

-- the later place races with an earlier one, on a variable of the range
pub record RacesInRange (trace : List Event) (from to later : ℕ) : Type 0 where
  pub range : IsInRange trace from to later
  pub earlier : ℕ
  pub order : earlier < later
  pub race : Races trace earlier later

-- none of the places from one on and below another races with an earlier one, on a variable of the range
abbrev pub NoRaceBetween : List Event → ℕ → ℕ → ℕ → ℕ → Type 0
NoRaceBetween trace from to start until = (later : ℕ) → start ≤ later → later < until → RacesInRange trace from to later → ⊥

-- The later place is the first one, from a place on, that races with an earlier one on a variable of the range, and the
-- other is the earliest that it races with.
pub record IsFirstRace (trace : List Event) (from to start later earlier : ℕ) : Type 0 where
  pub from_start : start ≤ later
  pub range : IsInRange trace from to later
  pub order : earlier < later
  pub race : Races trace earlier later
  pub earliest : NoRaceBelow trace later earlier
  pub first : NoRaceBetween trace from to start later

-- a race with its keep
abbrev pub found_race : Race → List ℕ → FoundRace
found_race race keep = record { later = race.later; earlier = race.earlier; keep = keep }

-- The next race of a scan, judged by all sync-preserving correct reorderings: no later place that was not passed comes
-- first, its partner is the earliest, and it has its keep.
pub record IsNextRace (scan : Scan) (found : FoundRace) : Type 0 where
  pub is_found : IsFoundRace scan.trace.events scan.trace.threads (by_reorderings scan.trace.events) found
  pub range : IsInRange scan.trace.events scan.from scan.to found.later
  pub from_passed : scan.passed ≤ found.later
  pub first : NoRaceBetween scan.trace.events scan.from scan.to scan.passed found.later

-- A scan gives its next race, and passes it; or it gives none where there is none, and stays as it was.
abbrev pub GivesNext : Scan → Option (Race × List ℕ) → Scan → Type 0
GivesNext old None new = NoRaceBetween old.trace.events old.from old.to old.passed (length old.trace.events) × (new ≡ old)
GivesNext old (Some found) new = IsNextRace old (found_race found.0 found.1) × (new ≡ record old { passed = found.0.later + 1 })
