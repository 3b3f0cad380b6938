use Rattle.std.proofs.Common.{◌≡◌, ◌+◌, ℕ, None, [], vec_len, length, All}
use Rattle.seat_lock.specs.declared.seat.LockSeat.{LockSeat}
use Rattle.seat_lock.specs.Tallies.{AreTallied, HasFirst}
use Rattle.seat_lock.specs.Shown.{seat_number, seat_count, seat_taken, IsSeatAt}
use Rattle.seat_lock.proofs.lock.SeatLock.close.Given as goal

abbrev pub invariant-loop-seat : goal.invariant-loop-seat
invariant-loop-seat g l = record {
  table : l.own.table_id ≡ l.table.shared.table_id;
  taken : l.own.me.0.taken ≡ None;
  none : l.own.me.1 ≡ [];
  some : HasFirst l.own.me.0.owned;
  long : length l.own.me.0.owned + vec_len l.seats ≡ vec_len l.initial.seats + 1;
  lock : All (λ (s : LockSeat g.row.S.Denot). IsSeatAt l.table.shared.table_id l.table.shared.key.origin.value s) l.seats.items;
  free : All (λ (s : LockSeat g.row.S.Denot). seat_taken s ≡ None) l.seats.items;
  counts : (t : ℕ → ℕ) → AreTallied t l.own.me.0.owned → All (λ (s : LockSeat g.row.S.Denot). t (seat_number s) ≡ seat_count s) l.seats.items → All (λ (s : LockSeat g.row.S.Denot). t (seat_number s) ≡ seat_count s) l.initial.seats.items;
}

abbrev pub decreases-loop-seat : goal.decreases-loop-seat
decreases-loop-seat g l = vec_len l.seats
