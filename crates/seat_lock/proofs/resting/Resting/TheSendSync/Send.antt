-- A seat at rest may go to another thread where what the slots hold may.
use denote.RattleType.{RattleType}
use denote.Param.Send.{IsSend, owning_send}
use Rattle.atomic_table.specs.contracts.shared.Seat as seat
use Rattle.atomic_table.proofs.Sent.{seat_keyless}
use Rattle.seat_lock.specs.contracts.resting.Resting.{the_row, the_type}

-- so may a seat
seat_send : (S V : RattleType) → IsSend S → IsSend (seat.the_row S V)
seat_send S V sent = record { owned = λ d vs. ((λ vss. (tt, ((λ uss. (tt, tt)), tt))), seat_keyless S sent V.coded.code d.table_id d.id d.me); leaving = λ k f vs. tt }

pub send : (S V : RattleType) → IsSend S → IsSend (the_row S V)
send S V sent = owning_send (the_type S V) (seat_send S V sent, tt) (λ d. tt) (λ k x w. (tt, tt))
