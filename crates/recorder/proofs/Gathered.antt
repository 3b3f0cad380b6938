-- What is known of passes, said of their seats.
use Rattle.std.proofs.Common.{◌≡◌, ℕ, List, [], ◌∷◌, ◌++◌, Some, None, length, map, get_or, inl, inr, sym, ap, subst, ◌∙◌, arith}
use Rattle.std.specs.Prelude.{All, slice_get}
use Rattle.std.proofs.lemmas.List.{get_or-map, length-map}
use Rattle.std.proofs.lemmas.List.Elements.{All-map}
use Rattle.trace_laws.specs.Event.{Event}
use Rattle.script_machine.specs.Recorded.{Running}
use Rattle.seat_lock.specs.declared.lock.SeatLock.{SeatLock}
use Rattle.seat_lock.specs.declared.seat.LockSeat.{LockSeat}
use Rattle.seat_lock.specs.Shown.{IsSeatOf, seat_number, seat_count, seat_taken}
use Rattle.row_locks.specs.Tallies.{events_by}
use Rattle.seat_lock.proofs.Seats.{get_snoc}
use Rattle.recorder.specs.declared.pass.Pass.{Pass}
use Rattle.recorder.specs.Passes.{IsNewPass}

-- the seat of a pass
abbrev pub seat_in : Pass → LockSeat Running
seat_in pass = pass.seat

-- the seats have taken no state
pub seats_free : (passes : List Pass) (seats : List (LockSeat Running)) → seats ≡ map seat_in passes → All (λ (seat : LockSeat Running). seat_taken seat ≡ None) seats
seats_free passes seats are =
    let P : LockSeat Running → Type 0 = λ (seat : LockSeat Running). seat_taken seat ≡ None in
    subst (All P) (sym are) (All-map P seat_in passes (λ k d less. (get_or passes k d).free))

-- they are of the lock
pub seats_of_lock : (lock : SeatLock Running) (passes : List Pass) (seats : List (LockSeat Running)) → seats ≡ map seat_in passes → All (λ pass. IsSeatOf lock (seat_in pass)) passes
    → All (λ (seat : LockSeat Running). IsSeatOf lock seat) seats
seats_of_lock lock passes seats are of =
    let P : LockSeat Running → Type 0 = λ (seat : LockSeat Running). IsSeatOf lock seat in
    subst (All P) (sym are) (All-map P seat_in passes of)

-- what they have counted are the granted calls
pub counts_granted : (front : List Event) (passes : List Pass) (seats : List (LockSeat Running)) → seats ≡ map seat_in passes
    → All (λ (seat : LockSeat Running). events_by (seat_number seat) front ≡ seat_count seat) seats → All (λ pass. events_by pass.thread front ≡ pass.granted) passes
counts_granted front passes seats are counts k d less =
    let P : LockSeat Running → Type 0 = λ (seat : LockSeat Running). events_by (seat_number seat) front ≡ seat_count seat in
    let pass = get_or passes k d in
    let long = length-map passes seat_in in
    let here = subst P (get_or-map seat_in passes k d (seat_in d) less) (subst (All P) are counts k (seat_in d) (omega arith)) in
    ap (λ n. events_by n front) (sym pass.numbered) ∙ here ∙ pass.counted

-- one new pass more
pub new_passes_push : (passes : List Pass) (pass : Pass) → ((k : ℕ) (p : Pass) → slice_get passes k ≡ Some p → IsNewPass k p) → IsNewPass (length passes) pass
    → (k : ℕ) (p : Pass) → slice_get (passes ++ pass ∷ []) k ≡ Some p → IsNewPass k p
new_passes_push passes pass before new k p at =
    elim (get_snoc passes pass p k at) [
      | inl else ↦ before k p else
      | inr here ↦ subst (λ (z : ℕ × Pass). IsNewPass z.0 z.1) (λ i. (sym here.0 i, here.1 i)) new
    ]
