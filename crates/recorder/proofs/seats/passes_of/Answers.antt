use Rattle.std.proofs.Common.{◌≡◌, ◌<◌, ℕ, Some, length, length-append, [], ◌∷◌, refl, sym, subst, ◌∙◌, arith}
use Rattle.std.specs.Prelude.{All, slice_get}
use Rattle.std.proofs.lemmas.Iterator.Consumers.{YieldsList-turn}
use Rattle.std.proofs.lemmas.Iterator.Adapters.{YieldsList-from_vec}
use Rattle.std.proofs.lemmas.List.Elements.{All-push}
use Rattle.std.proofs.lemmas.Option.{slice_get_read}
use Rattle.seat_lock.specs.declared.seat.LockSeat.{LockSeat}
use Rattle.seat_lock.specs.Shown.{IsSeatOf}
use Rattle.script_machine.specs.Recorded.{Running}
use Rattle.recorder.specs.declared.pass.Pass.{Pass}
use Rattle.recorder.specs.Passes.{IsPassOf, IsNewPass}
use Rattle.recorder.proofs.Gathered.{new_passes_push}
use Rattle.recorder.proofs.seats.passes_of.Goals as goal

pub loop-seat-preserved : goal.loop-seat-preserved
loop-seat-preserved c =
    let i = c.loop-seat.invariant in
    let seats = c.args.seats.items in
    let gives = c.into_iter-seat-iterator.ensures.into_iter_gives in
    let turn = YieldsList-turn (YieldsList-from_vec {s = c.into_iter-seat-iterator.result} seats gives.0 (gives.1 ∙ c.args.seats.ok.0)) c.loop-seat.yielded c.loop-seat.seat-iterator c.loop-seat.yielded_by c.next.result c.next.new.self c.in-Some.seat c.in-Some.is c.next.ensures.steps in
    let has = c.requires.seats (length c.loop-seat.yielded) c.in-Some.seat (slice_get_read seats (length seats) (length c.loop-seat.yielded) c.in-Some.seat refl turn.0 turn.1) in
    let many = i.many in
    let all = c.requires.all in
    let long = c.args.seats.ok.0 in
    let made = c.loop-seat.passes.ok.0 in
    let number = c.len-in-loop-seat.ensures in
    let thread = c.new-pass.ensures.thread in
    let within : length c.loop-seat.yielded < length seats = turn.0 in
    let pass : Pass = c.new-pass.result in
    let Of : Pass → Type 0 = λ p. IsPassOf c.args.manager.now p in
    let of : IsPassOf c.args.manager.now pass = record {
      seat = subst (λ (seat : LockSeat Running). IsSeatOf c.args.manager.now.lock seat) (sym c.new-pass.ensures.seat) has.lock;
      thread = omega arith;
    } in
    let new : IsNewPass (length c.loop-seat.passes.items) pass = record { thread = omega arith; granted = c.new-pass.ensures.granted } in
    record {
      many = let one = c.push_reserved.ensures.len in omega (arith, length-append c.loop-seat.yielded (c.in-Some.seat ∷ []));
      room = let same = c.push_reserved.ensures.capacity in let room = i.room in omega arith;
      of = subst (All Of) (sym c.push_reserved.ensures.items) (All-push Of c.loop-seat.passes.items pass i.of of);
      fresh = subst (λ xs. (k : ℕ) (p : Pass) → slice_get xs k ≡ Some p → IsNewPass k p) (sym c.push_reserved.ensures.items)
          (new_passes_push c.loop-seat.passes.items pass i.fresh new);
    }
