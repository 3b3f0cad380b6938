use Rattle.std.proofs.Common.{take}
use Rattle.replayer.proofs.KeptSteps.{IsAlong}
use Rattle.replayer.proofs.finding.machine_along.Given as goal

-- the places so far lead to the machine
abbrev pub invariant-loop-place : goal.invariant-loop-place
invariant-loop-place l = IsAlong l.script l.recording.trace.events (take l.place-index l.places) l.machine
