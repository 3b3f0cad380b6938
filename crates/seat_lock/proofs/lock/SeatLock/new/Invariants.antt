use Rattle.std.proofs.Common.{◌≡◌, ◌-◌, ◌≤◌, ℕ, Some, None, ◌∷◌, [], ◌++◌, vec_len, vec_capacity}
use Rattle.std.specs.Prelude.{slice_get}
use Rattle.seat_lock.specs.declared.seat.LockSeat.{LockSeat}
use Rattle.seat_lock.specs.Tallies.{fresh}
use Rattle.seat_lock.specs.Views.{view}
use Rattle.seat_lock.specs.Shown.{IsSeatAt, seat_number, seat_count, seat_taken}
use Rattle.seat_lock.proofs.lock.SeatLock.new.Given as goal

abbrev pub invariant-loop-number : goal.invariant-loop-number
invariant-loop-number g l = let first = l.table.shared.key.origin.value in record {
  table : l.own.table_id ≡ l.table.shared.table_id;
  me : l.own.me ≡ (view (fresh l.number (l.seats - l.number) ++ (l.seats, g.S.Tallied.tally first l.seats) ∷ []) None (Some first), []);
  many : vec_len l.all ≡ l.number;
  room : l.seats ≤ vec_capacity l.all;
  each : (k : ℕ) (s : LockSeat g.row.S.Denot) → slice_get l.all.items k ≡ Some s → IsSeatAt l.table.shared.table_id first s × (seat_number s ≡ k) × (seat_count s ≡ 0) × (seat_taken s ≡ None);
}
