use Rattle.race_scan.proofs.Pointers.{IsLeast}
use Rattle.race_scan.proofs.partners.earliest.Given as goal

abbrev pub invariant-loop-group : goal.invariant-loop-group
invariant-loop-group l = IsLeast l.groups l.passed l.later l.best l.bound l.group
