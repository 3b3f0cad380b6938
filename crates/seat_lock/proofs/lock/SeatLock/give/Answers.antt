use Rattle.std.proofs.Common.{rules, ◌≡◌, ap, refl, sym, subst, ◌∙◌, arith}
use Rattle.seat_lock.specs.Tallies.{first_pair, IsOne}
use Rattle.seat_lock.specs.Views.{slots_for}
use Rattle.seat_lock.specs.Steps.{Seated}
use Rattle.seat_lock.proofs.Gives.{may_put_back, put_back_told}
use Rattle.seat_lock.proofs.lock.SeatLock.give.Goals as goal

pub store-requires : goal.store-requires
store-requires g c = let s = c.args.seat.now in let had = c.requires.state in (
  search rules,
  search rules,
  may_put_back _ _ _ _ _ _ s.seat.me _ c.args.state had.before g.S.Tallied.transitive (let sized = c.args.self.now.sized in omega arith) c.exchange-before.ensures.3 s.one s.slots had.taken had.origin had.others,
)

pub invariant_of-seat : goal.invariant_of-seat
invariant_of-seat g c = let s = c.args.seat.now in let had = c.requires.state in
    let told = put_back_told g.S.Tallied.tally c.args.self.now.table.shared.table_id.slots s.seat.me _ c.store.new.seat.me c.args.state had.before c.exchange-before.ensures.3 s.one s.slots had.taken c.store.ensures.2 in record {
      one = subst (λ (m : Seated g.row.S.Denot). IsOne m.0.owned) (sym told) refl;
      slots = subst (λ (m : Seated g.row.S.Denot). m.1 ≡ slots_for m.0.taken) (sym told) refl;
    }

pub returns : goal.returns
returns g c = let s = c.args.seat.now in let had = c.requires.state in
    let told = put_back_told g.S.Tallied.tally c.args.self.now.table.shared.table_id.slots s.seat.me _ c.store.new.seat.me c.args.state had.before c.exchange-before.ensures.3 s.one s.slots had.taken c.store.ensures.2 in record {
      seat = record {
        lock = record {
          table = c.store.ensures.0 ∙ (c.exchange-before.ensures.0 ∙ c.requires.lock.table);
          origin = ap (λ (m : Seated g.row.S.Denot). m.0.origin) told ∙ c.requires.lock.origin;
        };
        number = ap (λ (m : Seated g.row.S.Denot). (first_pair m.0.owned).0) told;
        count = ap (λ (m : Seated g.row.S.Denot). (first_pair m.0.owned).1) told;
        taken = ap (λ (m : Seated g.row.S.Denot). m.0.taken) told;
      };
    }
