use Rattle.std.proofs.Common.{ℕ, ◌<◌}
use Rattle.trace_laws.specs.Reordering.{Conflict}
use Rattle.race_scan.specs.Passed.{ArePassed, IsHead}
use Rattle.race_scan.proofs.passing.pass_all.Given as goal

abbrev pub invariant-loop-group : goal.invariant-loop-group
invariant-loop-group l = record {
  passed : ArePassed l.index.events l.later l.groups l.passed;
  ready : (i e : ℕ) → i < l.group → IsHead l.groups l.passed i e → e < l.later → Conflict l.index.events e l.later;
}
