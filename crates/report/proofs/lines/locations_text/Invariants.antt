use Rattle.std.proofs.Common.{◌≡◌, take, string_bytes}
use Rattle.std.specs.List.{flat_map}
use Rattle.report.specs.Reports.{location_text}
use Rattle.report.proofs.lines.locations_text.Given as goal

-- the locations so far
abbrev pub invariant-loop-place : goal.invariant-loop-place
invariant-loop-place l = string_bytes l.text ≡ flat_map (location_text l.trace.events) (take l.place-index l.places)
