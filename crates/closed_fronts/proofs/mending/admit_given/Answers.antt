use Rattle.closed_fronts.proofs.Gains.{mended_empty}
use Rattle.closed_fronts.proofs.mending.admit_given.Goals as goal

pub returns-in_default-clause-mended : goal.returns-in_default-clause-mended
returns-in_default-clause-mended c = λ none. mended_empty c.args.ties.now.events c.args.cuts.now none
