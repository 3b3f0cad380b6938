use Rattle.std.proofs.Common.{◌≡◌, take}
use Rattle.std_text.specs.Writing.{trace_text}
use Rattle.replayer.specs.Replays.{along}
use Rattle.answers.proofs.witnesses.event_lines.Given as goal

-- the lines so far
abbrev pub invariant-loop-place : goal.invariant-loop-place
invariant-loop-place l = l.text.items ≡ trace_text l.names (along l.trace.events (take l.place-index l.places))
