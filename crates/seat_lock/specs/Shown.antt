-- What contracts see of a lock and of its seats.
use Rattle.std.specs.Prelude.{◌≡◌, ◌≢◌, ℕ, Option, Some}
use Rattle.atomic_table.specs.Seated.{TableId}
use Rattle.seat_lock.specs.declared.lock.SeatLock.{SeatLock}
use Rattle.seat_lock.specs.declared.seat.LockSeat.{LockSeat}
use Rattle.seat_lock.specs.Tallies.{first_pair}

module _ {S : Type 0} where
  -- the state that `new` was given
  abbrev pub given : SeatLock S → S
  given lock = lock.table.shared.key.origin.value

  -- how many seats the lock has
  abbrev pub lock_seats : SeatLock S → ℕ
  lock_seats lock = lock.seats

  -- the number of a seat
  abbrev pub seat_number : LockSeat S → ℕ
  seat_number seat = (first_pair seat.seat.me.0.owned).0

  -- the count of a seat
  abbrev pub seat_count : LockSeat S → ℕ
  seat_count seat = (first_pair seat.seat.me.0.owned).1

  -- the state that a seat has taken, if any
  abbrev pub seat_taken : LockSeat S → Option S
  seat_taken seat = seat.seat.me.0.taken

  -- a seat of the table, whose lock began with the state
  pub record IsSeatAt (place : TableId) (first : S) (seat : LockSeat S) : Type 0 where
    pub table : seat.seat.table_id ≡ place
    pub origin : seat.seat.me.0.origin ≡ Some first

  -- the seat is of the lock
  abbrev pub IsSeatOf : SeatLock S → LockSeat S → Type 0
  IsSeatOf lock seat = IsSeatAt lock.table.shared.table_id (given lock) seat

  -- the seat is of the lock, has the number k and the count n, and has taken this state, if any
  pub record IsSeatWith (of : SeatLock S) (k n : ℕ) (state : Option S) (seat : LockSeat S) : Type 0 where
    pub lock : IsSeatOf of seat
    pub number : seat_number seat ≡ k
    pub count : seat_count seat ≡ n
    pub taken : seat_taken seat ≡ state

  -- The seat has taken a state, and may give the other back in its place: that one has one origin with it, and the same
  -- tally at each number but the seat's own.
  pub record MayGive (tally : S → ℕ → ℕ) (one_origin : S → S → Type 0) (seat : LockSeat S) (state : S) : Type 0 where
    pub before : S
    pub taken : seat_taken seat ≡ Some before
    pub origin : one_origin before state
    pub others : (k : ℕ) → k ≢ seat_number seat → tally state k ≡ tally before k
