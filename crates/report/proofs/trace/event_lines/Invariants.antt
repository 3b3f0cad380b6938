use Rattle.std.proofs.Common.{◌≡◌, take}
use Rattle.std_text.specs.Writing.{trace_text}
use Rattle.report.proofs.trace.event_lines.Given as goal

-- the lines so far
abbrev pub invariant-loop-place : goal.invariant-loop-place
invariant-loop-place l = l.text.items ≡ trace_text l.names (take l.place l.trace.events)
