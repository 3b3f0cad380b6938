use Rattle.std.proofs.Common.{◌≡◌}
use Rattle.race_scan.specs.Passed.{ArePassed, AreReady, left_over}
use Rattle.race_scan.proofs.partners.search.Given as goal

abbrev pub invariant-loop-head : goal.invariant-loop-head
invariant-loop-head l = record {
  trace : l.set.trace ≡ l.index;
  passed : ArePassed l.index.events l.later l.groups l.passed;
  ready : AreReady l.index.events l.later l.groups l.passed;
}

abbrev pub decreases-loop-head : goal.decreases-loop-head
decreases-loop-head l = left_over l.groups l.passed
