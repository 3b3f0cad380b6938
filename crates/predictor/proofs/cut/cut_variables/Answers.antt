use Rattle.std.proofs.Common.{◌+◌, ◌≤◌, sym, subst, arith}
use Rattle.sp_base.specs.declared.limits.TheConstants.{MAX_VARS}
use Rattle.predictor.specs.Borders.{Rise, EndAt}
use Rattle.predictor.proofs.Bordering.{rise_more, rise_maybe, end_more}
use Rattle.predictor.proofs.cut.cut_variables.Goals as goal

pub loop-variable-preserved : goal.loop-variable-preserved
loop-variable-preserved c = record {
  rise = rise_maybe c.loop-variable.variable 0 (c.loop-variable.variable + 1) 0 c.loop-variable.borders.items c.add_before.new.borders.items (omega arith) (omega arith) c.in_ok-cost.ensures.added c.loop-variable.invariant.rise;
  few = c.in_ok-cost.ensures.few;
}

pub returns-clause-rise : goal.returns-clause-rise
returns-clause-rise c =
    let within = c.loop-variable.auto.variable-end in
    let le : c.loop-variable.variable ≤ MAX_VARS = omega arith in
    subst (Rise MAX_VARS 0) (sym c.in_ok-add-2.ensures) (rise_more c.loop-variable.variable 0 MAX_VARS 0 c.loop-variable.borders.items le (omega arith) c.loop-variable.invariant.rise)

pub returns-clause-end : goal.returns-clause-end
returns-clause-end c = subst (EndAt MAX_VARS 0) (sym c.in_ok-add-2.ensures) (end_more MAX_VARS 0 c.loop-variable.borders.items)
