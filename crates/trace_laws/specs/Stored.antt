-- How findings are kept.
use Rattle.std.specs.Prelude.{◌≡◌, ◌≤◌, ◌+◌, ◌-◌, ℕ, [], ◌∷◌, ◌++◌, length, map, Some, slice_get, All}
use Rattle.trace_laws.specs.declared.finding.Finding.{Finding}
use Rattle.trace_laws.specs.declared.finding.Finding.TheVariants.{Race, Deadlock}
use Rattle.trace_laws.specs.declared.findings.Findings.TheInside.{Inside}
use Rattle.trace_laws.specs.declared.findings.TheConstants.{MAX_LISTED}
use Rattle.trace_laws.specs.Findings.{Found, FoundRace, FoundDeadlock}

-- a finding that is a race, as a race with its keep
abbrev pub race_of : Finding → FoundRace
race_of (Race r keep) = record { later = r.later; earlier = r.earlier; keep = keep }
race_of (Deadlock picks keep) = record { later = 0; earlier = 0; keep = keep }

-- a finding that is a deadlock, as picks with their keep
abbrev pub deadlock_of : Finding → FoundDeadlock
deadlock_of (Race r keep) = record { picks = []; keep = keep }
deadlock_of (Deadlock picks keep) = record { picks = picks; keep = keep }

-- the finding is a race
abbrev pub IsRace : Finding → Type 0
IsRace (Race r keep) = Unit {0}
IsRace (Deadlock picks keep) = ⊥

-- the finding is a deadlock
abbrev pub IsDeadlock : Finding → Type 0
IsDeadlock (Race r keep) = ⊥
IsDeadlock (Deadlock picks keep) = Unit {0}

-- what the fields mean: the races and the deadlocks
abbrev pub found_in : Inside → Found
found_in f = record { races = map race_of f.races.items; deadlocks = map deadlock_of f.deadlocks.items }

-- races and deadlocks are kept apart, and they can be numbered
pub record AreSorted (f : Inside) : Type 0 where
  pub races : All IsRace f.races.items
  pub deadlocks : All IsDeadlock f.deadlocks.items
  pub few : length f.races.items + length f.deadlocks.items ≤ MAX_LISTED

-- the finding became the last race or the last deadlock
abbrev pub Adds : Found → Finding → Found → Type 0
Adds old (Race r keep) new = (new.races ≡ old.races ++ race_of (Race r keep) ∷ []) × (new.deadlocks ≡ old.deadlocks)
Adds old (Deadlock picks keep) new = (new.races ≡ old.races) × (new.deadlocks ≡ old.deadlocks ++ deadlock_of (Deadlock picks keep) ∷ [])

-- the finding is the one of that number, where the races come first
abbrev pub IsAt : Found → ℕ → Finding → Type 0
IsAt found n (Race r keep) = slice_get found.races n ≡ Some (race_of (Race r keep))
IsAt found n (Deadlock picks keep) = (length found.races ≤ n) × (slice_get found.deadlocks (n - length found.races) ≡ Some (deadlock_of (Deadlock picks keep)))
