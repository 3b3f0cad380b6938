use Rattle.std.proofs.Common.{◌≡◌, false}
use Rattle.std_text.proofs.tests.feed_often.Given as goal

abbrev pub invariant-loop : goal.invariant-loop
invariant-loop l = l.reader.closed ≡ false
