use Rattle.std.proofs.Common.{◌≡◌}
use Rattle.script_machine.specs.Held.{meaning}
use Rattle.report.proofs.MoreEnds.{ends_below}
use Rattle.report.proofs.ends.lines_of_ends.Given as goal

-- the lines so far
abbrev pub invariant-loop-number : goal.invariant-loop-number
invariant-loop-number l = l.text.items ≡ ends_below l.names l.machine.script (meaning l.machine) l.number
