-- The lines of findings of the code.
use Rattle.std.specs.Prelude.{ℕ, List}
use Rattle.trace_laws.specs.Event.{Event}
use Rattle.trace_laws.specs.Stored.{deadlock_of, race_of}
use Rattle.trace_laws.specs.declared.finding.Finding.{Finding}
use Rattle.trace_laws.specs.declared.finding.Finding.TheVariants.{Race, Deadlock}
use Rattle.report.specs.Reports.{IsDeadlockWithin, IsRaceWithin, deadlock_line, race_line}

-- the line of a finding
abbrev pub finding_line : List Event → Finding → List ℕ
finding_line h (Race r keep) = race_line h (race_of (Race r keep))
finding_line h (Deadlock picks keep) = deadlock_line h (deadlock_of (Deadlock picks keep))

-- its places are places of the trace
abbrev pub IsFindingWithin : List Event → Finding → Type 0
IsFindingWithin h (Race r keep) = IsRaceWithin h (race_of (Race r keep))
IsFindingWithin h (Deadlock picks keep) = IsDeadlockWithin h (deadlock_of (Deadlock picks keep))
