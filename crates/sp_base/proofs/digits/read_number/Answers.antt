use Rattle.std.proofs.Common.{sym, ◌∙◌, arith}
use Rattle.sp_base.proofs.Numbers.{too_great, no_number, whole_number}
use Rattle.sp_base.proofs.digits.read_number.Goals as goal

pub returns-then-not-is_digit : goal.returns-then-not-is_digit
returns-then-not-is_digit c = record {
  value = sym (no_number c.args.bound c.args.word.now c.loop-byte.byte-index c.loop-byte-test.true (sym c.is_digit.ensures ∙ c.if-not-is_digit.true));
  within = tt;
}

pub returns-then-number-from : goal.returns-then-number-from
returns-then-number-from c = record {
  value = sym (too_great c.args.bound c.args.word.now c.loop-byte.number c.loop-byte.byte-index c.loop-byte.invariant.rest c.loop-byte-test.true (omega arith));
  within = tt;
}

pub returns : goal.returns
returns c = record {
  value = sym (whole_number c.args.bound c.args.word.now c.loop-byte.number c.loop-byte.byte-index c.loop-byte.invariant.some c.loop-byte-test.false c.loop-byte.invariant.rest c.loop-byte.invariant.digits c.loop-byte.invariant.few);
  within = c.loop-byte.invariant.few;
}
