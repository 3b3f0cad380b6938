use Rattle.intake.proofs.TraceTaking.{piece_taken}
use Rattle.intake.proofs.reading.TraceTakerTaker.take_piece.Goals as goal

pub returns-clause-taken : goal.returns-clause-taken
returns-clause-taken c = λ input come within. piece_taken c.self.inside.reader c.read_piece.new.reader input c.args.piece.now c.read_piece.result (rw c.self.view_is come) c.read_piece.ensures.read
