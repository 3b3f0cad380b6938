-- What a clause reads of a seat at rest.
use Rattle.seat_lock.specs.declared.resting.Resting.{Resting}
use Rattle.atomic_table.specs.declared.shared.Seat.{Seat}

-- the seat
abbrev pub rested : {S V : Type 0} → Resting S V → Seat S V
rested r = r.seat
