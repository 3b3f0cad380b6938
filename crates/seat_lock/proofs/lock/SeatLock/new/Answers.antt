use Rattle.std.proofs.Common.{Option, ◌++◌, ◌≡◌, ℕ, Some, None, List, [], ◌∷◌, ap, sym, subst, ◌∙◌, arith, ⊎_elim, length}
use Rattle.std.specs.Prelude.{slice_get}
use Rattle.atomic_table.specs.Table.{opening}
use Rattle.seat_lock.specs.declared.seat.LockSeat.{LockSeat}
use Rattle.seat_lock.specs.Tallies.{Pairs, first_pair}
use Rattle.seat_lock.specs.Views.{opened}
use Rattle.seat_lock.specs.Rule.{LockRule}
use Rattle.seat_lock.specs.Steps.{Seated}
use Rattle.seat_lock.specs.Shown.{IsSeatAt, seat_number, seat_count, seat_taken}
use Rattle.seat_lock.proofs.Ends.{may_open}
use Rattle.seat_lock.proofs.Seats.{cut_own, cut_seat, get_snoc}
use Rattle.seat_lock.proofs.lock.SeatLock.new.Goals as goal

pub new-requires : goal.new-requires
new-requires g c = let tally = g.S.Tallied.tally in let first = c.args.state in let is = c.of.ensures in let n = c.from-2.ensures in
    let slots = c.push_reserved.ensures.items ∙ ap (λ (l : List (Option g.row.S.Denot)). l ++ Some first ∷ []) c.in_ok-slots.ensures.items in
    subst (λ (z : g.row.S.Denot × ℕ × List (Option g.row.S.Denot)). LockRule tally g.S.Tallied.one_origin z.0 z.1 (opening (0 ∷ []) z.2 (opened tally z.0 z.1)))
    (λ i. (sym is i, sym n i, sym slots i)) (may_open tally g.S.Tallied.one_origin first c.args.seats g.S.Tallied.reflexive c.requires)

pub loop-number-preserved : goal.loop-number-preserved
loop-number-preserved g c =
    let i = c.loop-number.invariant in let n : ℕ = c.args.seats in let k : ℕ = c.loop-number.number in let first = c.in-Ok.made.0.shared.key.origin.value in let table = c.in-Ok.made.0.shared.table_id in
    let last : Pairs = (n, g.S.Tallied.tally first n) ∷ [] in let seat = c.cut-seat.ensures.seat in let items = c.push_reserved-in-loop-number.ensures.items in
    let me = cut_seat k n last (Some first) c.loop-number.own.me c.cut-seat.result.seat.me c.loop-number-test.true i.me seat.1 in record {
      table = c.cut-seat.ensures.own.0 ∙ i.table;
      me = cut_own k n last (Some first) c.loop-number.own.me c.cut-seat.new.own.me c.loop-number-test.true i.me c.cut-seat.ensures.own.1;
      many = let l = c.push_reserved-in-loop-number.ensures.len in let m = i.many in omega arith;
      room = let l = c.push_reserved-in-loop-number.ensures.capacity in let m = i.room in omega arith;
      each = λ j s at. ⊎_elim (λ else. i.each j s else)
          (λ (here : (j ≡ length c.loop-number.all.items) × (c.cut-seat.result ≡ s)). let number : k ≡ j = sym (here.0 ∙ (sym c.loop-number.all.ok.0 ∙ i.many)) in
          subst (λ (z : ℕ × LockSeat g.row.S.Denot). IsSeatAt table first z.1 × (seat_number z.1 ≡ z.0) × (seat_count z.1 ≡ 0) × (seat_taken z.1 ≡ None)) (λ x. (number x, here.1 x)) (
            record { table = seat.0 ∙ i.table; origin = ap (λ (m : Seated g.row.S.Denot). m.0.origin) me },
            ap (λ (m : Seated g.row.S.Denot). (first_pair m.0.owned).0) me,
            ap (λ (m : Seated g.row.S.Denot). (first_pair m.0.owned).1) me,
            ap (λ (m : Seated g.row.S.Denot). m.0.taken) me,
          ))
          (get_snoc c.loop-number.all.items c.cut-seat.result s j (subst (λ (l : List (LockSeat g.row.S.Denot)). slice_get l j ≡ Some s) items at));
    }
