-- Events whose locations are left out of sight.
use Rattle.std.specs.Prelude.{◌≡◌, ℕ, List, map}
use Rattle.trace_laws.specs.Event.{Event}
use Rattle.trace_laws.specs.Findings.{Found, AreFindings, by_reorderings}

-- the events without their locations
abbrev pub without_locations : List Event → List Event
without_locations events = map {A = Event} (λ e. record e { loc = 0 }) events

-- the same threads do the same, perhaps at other locations
abbrev pub DoTheSame : List Event → List Event → Type 0
DoTheSame a b = without_locations a ≡ without_locations b

-- what is found in a trace does not depend on its locations
abbrev pub LocationsDoNotCount : Type 0
LocationsDoNotCount = (a b : List Event) (threads size : ℕ) (found : Found) → DoTheSame a b → AreFindings a threads size (by_reorderings a) found → AreFindings b threads size (by_reorderings b) found
