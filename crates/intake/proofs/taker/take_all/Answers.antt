use Rattle.std.proofs.Common.{arith, ap, Err, ◌≤◌, ◌+◌, ◌++◌, length, take}
use Rattle.std.proofs.lemmas.Result.{err_from_is_err_and}
use Rattle.std.proofs.lemmas.List.{length-take}
use Rattle.sp_base.specs.declared.limits.TheConstants.{MAX_INPUT}
use Rattle.intake.proofs.Taking.{grown, grown_within, refused_by}
use Rattle.intake.proofs.taker.take_all.Goals as goal

pub returns-in_err-take_piece-in-Ok-clause-read : goal.returns-in_err-take_piece-in-Ok-clause-read
returns-in_err-take_piece-in-Ok-clause-read g c =
    let came = c.loop-taken.invariant in
    let p = err_from_is_err_and c.from_residual.result c.from_residual.ensures.1 in
    let piece = take c.in-Ok.count c.read.new.buffer in
    let window = length-take c.min-room.result c.loop-taken.buffer in
    let few : length piece ≤ c.min-room.result = omega (arith, c.in-Ok.ensures.bound.0, c.in-Ok.ensures.bound.1, window, c.read.auto.buffer) in
    let room : c.loop-taken.taken + c.min-room.result ≤ MAX_INPUT + 1 = omega (arith, came.few, came.count, c.min-room.ensures) in
    let within = grown_within _ _ _ _ _ _ _ came piece c.in-Ok.ensures.bytes.0 _ few room in (
      came.input ++ piece,
      grown _ _ _ _ _ _ _ came piece c.in-Ok.ensures.bytes.0,
      (within, rw (p.1, p.2) (refused_by (g.T.Taker.has c.take_piece.new.self) g.T.Taker.refuses c.in_err-take_piece-in-Ok.field-0.0 (came.input ++ piece) (λ e. c.in_err-take_piece-in-Ok.ensures.read (ap Err e)) (c.in_err-take_piece-in-Ok.ensures.taken came.input came.has within))),
    )
