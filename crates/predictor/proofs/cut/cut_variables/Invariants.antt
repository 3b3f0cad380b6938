use Rattle.std.proofs.Common.{◌≤◌, length}
use Rattle.predictor.specs.Borders.{Rise}
use Rattle.predictor.specs.declared.cut.TheConstants.{MAX_RANGES}
use Rattle.predictor.proofs.cut.cut_variables.Given as goal

abbrev pub invariant-loop-variable : goal.invariant-loop-variable
invariant-loop-variable l = record {
  rise : Rise l.variable 0 l.borders.items;
  few : length l.borders.items ≤ MAX_RANGES;
}
