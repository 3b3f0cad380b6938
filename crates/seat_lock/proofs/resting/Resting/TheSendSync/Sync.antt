-- Threads may share a seat at rest where it may go to another thread: a `&` to it gives nothing.
use denote.RattleType.{RattleType}
use denote.Param.Send.{IsSend, IsSync, part_keyless}
use Rattle.seat_lock.specs.contracts.resting.Resting.{the_row}
use Rattle.seat_lock.proofs.resting.Resting.TheSendSync.Send.{send}

pub sync : (S V : RattleType) → IsSend S → IsSync (the_row S V)
sync S V sent = record { shared = λ d b o ν q. part_keyless (the_row S V) (send S V sent) q d b o }
