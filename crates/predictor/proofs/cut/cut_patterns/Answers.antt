use Rattle.std.proofs.Common.{◌+◌, ◌-◌, length, sym, subst, arith}
use Rattle.sp_base.specs.declared.limits.TheConstants.{MAX_VARS}
use Rattle.predictor.specs.Borders.{Rise, EndAt, VariablesComeFirst}
use Rattle.predictor.proofs.Bordering.{rise_more, rise_maybe, end_more, sorts_first, sorts_more, sorts_maybe}
use Rattle.predictor.proofs.cut.cut_patterns.Goals as goal

pub loop-pattern-init : goal.loop-pattern-init
loop-pattern-init c =
    let few = c.requires.room in
    let some = c.requires.some in
    record {
      rise = c.requires.rise;
      sorts = sorts_first MAX_VARS c.args.borders.now.items c.requires.some c.requires.rise c.requires.end;
      few = omega arith;
    }

pub loop-pattern-preserved : goal.loop-pattern-preserved
loop-pattern-preserved c =
    let added = c.in_ok-range.ensures.added in
    let first = length c.args.borders.now.items - 1 in
    record {
      rise = rise_maybe MAX_VARS c.loop-pattern.pattern MAX_VARS (c.loop-pattern.pattern + 1) c.loop-pattern.borders.items c.add_before.new.borders.items (omega arith) (omega arith) added c.loop-pattern.invariant.rise;
      sorts = sorts_maybe MAX_VARS first c.loop-pattern.pattern c.loop-pattern.borders.items c.add_before.new.borders.items added c.loop-pattern.invariant.sorts;
      few = c.in_ok-range.ensures.few;
    }

pub returns-clause-rise : goal.returns-clause-rise
returns-clause-rise c =
    let within = c.loop-pattern.auto.pattern-end in
    subst (Rise MAX_VARS c.args.patterns) (sym c.in_ok-add.ensures) (rise_more MAX_VARS c.loop-pattern.pattern MAX_VARS c.args.patterns c.loop-pattern.borders.items (omega arith) (omega arith) c.loop-pattern.invariant.rise)

pub returns-clause-end : goal.returns-clause-end
returns-clause-end c = subst (EndAt MAX_VARS c.args.patterns) (sym c.in_ok-add.ensures) (end_more MAX_VARS c.args.patterns c.loop-pattern.borders.items)

pub returns-clause-sorts : goal.returns-clause-sorts
returns-clause-sorts c =
    subst (VariablesComeFirst MAX_VARS (length c.args.borders.now.items - 1)) (sym c.in_ok-add.ensures)
    (sorts_more MAX_VARS (length c.args.borders.now.items - 1) c.args.patterns c.loop-pattern.borders.items c.loop-pattern.invariant.sorts)
