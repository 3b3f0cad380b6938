-- The report of what is found in a trace.
use Rattle.std.specs.Prelude.{◌<◌, ℕ, List, ◌++◌, length, codes, slice_get, All}
use Rattle.std.specs.Fmt.{decimal}
use Rattle.std.specs.List.{flat_map}
use Rattle.std.specs.Option.{option_map_or}
use Rattle.trace_laws.specs.Event.{Event}
use Rattle.trace_laws.specs.Findings.{Found, FoundRace, FoundDeadlock}

-- the location of a place
abbrev pub loc_at : List Event → ℕ → ℕ
loc_at h place = option_map_or (λ e. e.loc) (slice_get h place) 0

-- a count after a space
abbrev pub count_text : ℕ → List ℕ
count_text n = codes " " ++ decimal n

-- the later and the earlier place of a race, and their locations
abbrev pub places_text : List Event → ℕ → ℕ → List ℕ
places_text h later earlier =
    codes "race " ++ decimal later ++ codes " with " ++ decimal earlier ++ codes " at " ++ decimal (loc_at h later)
    ++ codes " " ++ decimal (loc_at h earlier) ++ codes " keep"

-- the line of a race: its places with their locations, and its keep
abbrev pub race_line : List Event → FoundRace → List ℕ
race_line h r = places_text h r.later r.earlier ++ flat_map count_text r.keep ++ codes "\n"

-- the location of a place after a space
abbrev pub location_text : List Event → ℕ → List ℕ
location_text h place = count_text (loc_at h place)

-- the line of a deadlock: its places, their locations, and its keep
abbrev pub deadlock_line : List Event → FoundDeadlock → List ℕ
deadlock_line h d =
    codes "deadlock" ++ flat_map count_text d.picks ++ codes " at" ++ flat_map (location_text h) d.picks
    ++ codes " keep" ++ flat_map count_text d.keep ++ codes "\n"

-- the last line: how many races and deadlocks there are
abbrev pub closing_line : ℕ → ℕ → List ℕ
closing_line races deadlocks = codes "races " ++ decimal races ++ codes " deadlocks " ++ decimal deadlocks ++ codes "\n"

-- the lines of the races, then those of the deadlocks
abbrev pub finding_lines : List Event → Found → List ℕ
finding_lines h found = flat_map (race_line h) found.races ++ flat_map (deadlock_line h) found.deadlocks

-- the report: the lines of what is found, then the last line
unfoldable pub report_text : List Event → Found → List ℕ
report_text h found = finding_lines h found ++ closing_line (length found.races) (length found.deadlocks)

-- the places of a race are places of the trace
pub record IsRaceWithin (h : List Event) (r : FoundRace) : Type 0 where
  pub later : r.later < length h
  pub earlier : r.earlier < length h

-- those of a deadlock are
abbrev pub IsDeadlockWithin : List Event → FoundDeadlock → Type 0
IsDeadlockWithin h d = All (λ place. place < length h) d.picks

-- the places of all that is found are places of the trace
pub record AreWithin (h : List Event) (found : Found) : Type 0 where
  pub races : All (IsRaceWithin h) found.races
  pub deadlocks : All (IsDeadlockWithin h) found.deadlocks
