use Rattle.std.proofs.Common.{arith}
use Rattle.std.proofs.lemmas.List.{length-take}
use Rattle.sp_base.specs.declared.limits.TheConstants.{MAX_INPUT}
use Rattle.intake.proofs.gathering.too_long.Goals as goal

pub slice_bounds-count_newlines-end : goal.slice_bounds-count_newlines-end
slice_bounds-count_newlines-end c = let front = length-take MAX_INPUT c.args.text.now in omega (arith, front, c.requires)

pub overflow_cast-line : goal.overflow_cast-line
overflow_cast-line c = let front = length-take MAX_INPUT c.args.text.now in omega (arith, front, c.count_newlines.ensures.few)

pub overflow_add-line : goal.overflow_add-line
overflow_add-line c = let front = length-take MAX_INPUT c.args.text.now in omega (arith, front, c.count_newlines.ensures.few)
