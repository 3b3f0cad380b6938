use Rattle.std.proofs.Common.{◌-◌, length, arith}
use Rattle.predictor.proofs.cut.cut.Goals as goal

pub returns-clause-sorts : goal.returns-clause-sorts
returns-clause-sorts c =
    let some = c.in_ok-borders.ensures.some in
    let few = c.in_ok-borders.ensures.few in
    let more = c.in_ok-cut_patterns.ensures.few in
    record { first = length c.in_ok-borders.borders.items - 1; sorts = c.in_ok-cut_patterns.ensures.sorts; few_of_variables = omega arith; few_of_patterns = omega arith }
