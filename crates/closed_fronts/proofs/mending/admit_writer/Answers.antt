use Rattle.std.proofs.Common.{◌≡◌, ◌<◌, Some, arith}
use Rattle.std.specs.Prelude.{length}
use Rattle.closed_fronts.specs.Needs.{IsWriterOfRead}
use Rattle.closed_fronts.proofs.Admissions.{admits_same}
use Rattle.closed_fronts.proofs.Told.{some_if}
use Rattle.closed_fronts.proofs.mending.admit_writer.Goals as goal

pub admit_given-requires-clause-place : goal.admit_given-requires-clause-place
admit_given-requires-clause-place c = some_if (λ p. p < length c.args.rows.now) c.writer.result (λ w is. let less = ((c.writer.ensures w).0 is).last.before in let made = c.requires.made in omega arith)

pub returns-clause-admits : goal.returns-clause-admits
returns-clause-admits c = admits_same c.args.ties.now.events (λ i. c.writer.result ≡ Some i) (IsWriterOfRead c.args.ties.now.events c.args.place) c.args.cuts.now c.admit_given.new.cuts (λ i w. (c.writer.ensures i).1 w) (λ i is. (c.writer.ensures i).0 is) c.admit_given.ensures.admits
