use Rattle.std.proofs.Common.{◌≡◌, None, ◌++◌, ap, sym, subst, ◌∙◌, arith, length, length-append}
use Rattle.std.specs.Prelude.{All}
use Rattle.seat_lock.specs.declared.seat.LockSeat.{LockSeat}
use Rattle.seat_lock.specs.Tallies.{AreTallied, HasFirst}
use Rattle.seat_lock.specs.Steps.{Seated}
use Rattle.seat_lock.specs.Shown.{seat_number, seat_count, seat_taken, IsSeatOf}
use Rattle.seat_lock.proofs.Sums.{tallied_apart}
use Rattle.seat_lock.proofs.Seats.{first_stays, all_front, all_last, all_more}
use Rattle.seat_lock.proofs.lock.SeatLock.close.Goals as goal

pub absorb-requires-clause-seat : goal.absorb-requires-clause-seat
absorb-requires-clause-seat g c = let i = c.loop-seat.invariant in let e = c.in-Some.ensures in let seat = c.in-Some.seat in
    let Of : LockSeat g.row.S.Denot → Type 0 = IsSeatOf c.args.self in let Free : LockSeat g.row.S.Denot → Type 0 = λ (s : LockSeat g.row.S.Denot). seat_taken s ≡ None in
    ((all_last Of c.pop.new.self.items seat (subst (All Of) e.items i.lock)).table, all_last Free c.pop.new.self.items seat (subst (All Free) e.items i.free))

pub loop-seat-preserved : goal.loop-seat-preserved
loop-seat-preserved g c = let i = c.loop-seat.invariant in let e = c.in-Some.ensures in let seat = c.in-Some.seat in let own = c.absorb.ensures in
    let own_is : c.absorb.new.own.me.0.owned ≡ c.loop-seat.own.me.0.owned ++ seat.seat.me.0.owned = ap (λ (m : Seated g.row.S.Denot). m.0.owned) own.1 in
    let one = seat.one in
    let grown = ap length own_is ∙ length-append c.loop-seat.own.me.0.owned seat.seat.me.0.owned in
    let single = ap length one in
    let Of : LockSeat g.row.S.Denot → Type 0 = IsSeatOf c.args.self in let Free : LockSeat g.row.S.Denot → Type 0 = λ (s : LockSeat g.row.S.Denot). seat_taken s ≡ None in record {
      table = own.0 ∙ i.table;
      taken = ap (λ (m : Seated g.row.S.Denot). m.0.taken) own.1 ∙ i.taken;
      none = ap (λ (m : Seated g.row.S.Denot). m.1) own.1 ∙ i.none;
      some = subst HasFirst (sym own_is) (first_stays c.loop-seat.own.me.0.owned seat.seat.me.0.owned i.some);
      long = let l = i.long in let n = e.len in omega arith;
      lock = all_front Of c.pop.new.self.items seat (subst (All Of) e.items i.lock);
      free = all_front Free c.pop.new.self.items seat (subst (All Free) e.items i.free);
      counts = λ t all rest. let both = tallied_apart t c.loop-seat.own.me.0.owned seat.seat.me.0.owned (subst (AreTallied t) own_is all) in let mine = subst (AreTallied t) one both.1 in
          let Q : LockSeat g.row.S.Denot → Type 0 = λ (s : LockSeat g.row.S.Denot). t (seat_number s) ≡ seat_count s in
          i.counts t both.0 (subst (All Q) (sym e.items) (all_more Q c.pop.new.self.items seat rest mine.0));
    }

pub returns-clause-tallies : goal.returns-clause-tallies
returns-clause-tallies g c = c.loop-seat.invariant.counts (g.S.Tallied.tally c.ended.result) c.ended.ensures.tallies (λ k d less. let none = c.in_default.ensures.cases.0 in let len = c.loop-seat.seats.ok.0 in absurd (omega arith))
