use Rattle.std.proofs.Common.{◌-◌, ◌≤◌, length}
use Rattle.sp_base.specs.declared.limits.TheConstants.{MAX_VARS}
use Rattle.predictor.specs.Borders.{Rise, VariablesComeFirst}
use Rattle.predictor.proofs.cut.cut_patterns.Given as goal

abbrev pub invariant-loop-pattern : goal.invariant-loop-pattern
invariant-loop-pattern l = record {
  rise : Rise MAX_VARS l.pattern l.borders.items;
  sorts : VariablesComeFirst MAX_VARS (length l.fn.borders.items - 1) l.borders.items;
  few : length l.borders.items ≤ l.most;
}
