use Rattle.std.proofs.Common.{◌≡◌, ◌<◌, ◌≤◌, length, take, drop, true}
use Rattle.std.specs.List.{list_all}
use Rattle.sp_base.specs.Digits.{is_digit, number_after}
use Rattle.sp_base.proofs.digits.read_number.Given as goal

abbrev pub invariant-loop-byte : goal.invariant-loop-byte
invariant-loop-byte l = record {
  some : 0 < length l.word;
  rest : number_after l.number (drop l.byte-index l.word) ≡ number_after 0 l.word;
  digits : list_all is_digit (take l.byte-index l.word) ≡ true;
  few : l.number ≤ l.bound;
}
