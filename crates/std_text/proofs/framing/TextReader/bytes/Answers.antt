use Rattle.std.proofs.lemmas.Result.{err_from_is_err_and}
use Rattle.std_text.proofs.TextPieces.{after_none, more, failed_at}
use Rattle.std_text.proofs.framing.TextReader.bytes.Goals as goal

pub loop-byte-init : goal.loop-byte-init
loop-byte-init c = rw (← c.self.view_is) (after_none _ c.self.invariant.2 c.self.invariant.1)

pub returns-in_err-byte : goal.returns-in_err-byte
returns-in_err-byte c =
    let p = err_from_is_err_and c.from_residual.result c.from_residual.ensures.1 in
    rw (p.1, p.2) (failed_at c.args.self.now c.loop-byte.self _ _ c.args.piece.now c.loop-byte.byte-index c.loop-byte-test.true c.loop-byte.invariant c.in_err-byte.ensures)

pub loop-byte-preserved : goal.loop-byte-preserved
loop-byte-preserved c = more c.args.self.now c.loop-byte.self c.byte.new.self c.args.piece.now c.loop-byte.byte-index c.loop-byte-test.true c.loop-byte.invariant c.in_ok-byte.ensures
