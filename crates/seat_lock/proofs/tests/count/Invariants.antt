use Rattle.std.proofs.Common.{None}
use Rattle.seat_lock.specs.Shown.{IsSeatWith}
use Rattle.seat_lock.proofs.tests.count.Given as goal

abbrev pub invariant-loop-counted : goal.invariant-loop-counted
invariant-loop-counted g l = IsSeatWith l.lock l.number l.counted None l.seat
