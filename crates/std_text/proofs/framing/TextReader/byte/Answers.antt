use Rattle.std.proofs.Common.{arith, ◌<◌, ◌≡◌, eq-eqb, length}
use Rattle.sp_base.specs.declared.limits.TheConstants.{MAX_INPUT, MAX_LINE}
use Rattle.std.proofs.lemmas.Bool.{ne_eqb}
use Rattle.std.proofs.lemmas.Result.{err_from_is_err_and}
use Rattle.std_text.proofs.TextPieces.{steps_full, newline_failed, newline_read, after_byte, steps_long}
use Rattle.std_text.proofs.framing.TextReader.byte.Goals as goal

pub returns-then-self-eq-MAX_INPUT : goal.returns-then-self-eq-MAX_INPUT
returns-then-self-eq-MAX_INPUT c = rw (← c.self.view_is) (steps_full _ c.args.byte c.refusal.result c.self.invariant.2 c.if-self-eq-MAX_INPUT.true c.refusal.ensures)

pub returns-in_err-take_line : goal.returns-in_err-take_line
returns-in_err-take_line c =
    let p = err_from_is_err_and c.from_residual.result c.from_residual.ensures.1 in
    let room : c.self.inside.taken < MAX_INPUT = omega arith in
    rw (← c.self.view_is, p.1, p.2) (newline_failed _ c.args.byte _ _ room (eq-eqb _ _ c.if-byte-eq10.true) (rw (← c.deref.ensures.value) c.in_err-take_line.ensures.read))

pub returns-then-byte-eq10 : goal.returns-then-byte-eq10
returns-then-byte-eq10 c =
    let room : c.self.inside.taken < MAX_INPUT = omega arith in
    rw (← c.self.view_is, c.clear.ensures.items) (newline_read _ c.args.byte _ room (eq-eqb _ _ c.if-byte-eq10.true) (rw (← c.deref.ensures.value) c.in_ok-take_line.ensures.read))

pub returns-then-len-eq-MAX_LINE : goal.returns-then-len-eq-MAX_LINE
returns-then-len-eq-MAX_LINE c =
    let room : c.self.inside.taken < MAX_INPUT = omega arith in
    let full : length c.self.inside.rest.items ≡ MAX_LINE = omega arith in
    rw (← c.self.view_is) (steps_long _ c.args.byte c.refusal-then-len-eq-MAX_LINE.result room (ne_eqb _ _ c.if-byte-eq10.false) full c.refusal-then-len-eq-MAX_LINE.ensures)

pub returns : goal.returns
returns c =
    let room : c.self.inside.taken < MAX_INPUT = omega arith in
    let short : length c.self.inside.rest.items < MAX_LINE = omega arith in
    rw (← c.self.view_is, c.in-Ok.ensures.items) (after_byte _ c.args.byte room (ne_eqb _ _ c.if-byte-eq10.false) short)
