use Rattle.std.proofs.Common.{◌≡◌, string_bytes}
use Rattle.report.proofs.MoreLines.{lines_below}
use Rattle.report.proofs.findings.lines_of_all.Given as goal

-- the lines so far
abbrev pub invariant-loop-number : goal.invariant-loop-number
invariant-loop-number l = string_bytes l.text ≡ lines_below l.trace.events l.findings l.number
