use Rattle.std.proofs.Common.{◌≡◌, ◌++◌, take}
use Rattle.std.specs.Prelude.{codes}
use Rattle.std.specs.Fmt.{decimal}
use Rattle.std.specs.List.{flat_map}
use Rattle.report.specs.ReachedLines.{call_after_space}
use Rattle.report.proofs.reached.line_of_reached.Given as goal

-- the number and the calls so far
abbrev pub invariant-loop-thread : goal.invariant-loop-thread
invariant-loop-thread l = l.line.items ≡ (codes "replay " ++ decimal l.number) ++ flat_map (call_after_space l.names l.reached.machine) (take l.thread-index l.reached.threads)
