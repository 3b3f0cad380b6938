use Rattle.std.proofs.Common.{rules, ◌≡◌, refl, sym, subst}
use Rattle.seat_lock.specs.Tallies.{Pairs, head_pairs, IsOne}
use Rattle.seat_lock.specs.Views.{slots_for}
use Rattle.seat_lock.specs.Steps.{Seated}
use Rattle.seat_lock.proofs.Cuts.{may_split}
use Rattle.seat_lock.proofs.seat.cut.Goals as goal

pub split_seat-seat-requires : goal.split_seat-seat-requires
split_seat-seat-requires g c = (search rules, search rules, may_split _ _ _ _ _ _ _ _ c.requires.some c.requires.free)

pub invariant_of-result : goal.invariant_of-result
invariant_of-result g c = let me = c.split_seat-seat.ensures.4 in record {
  one = subst (λ (m : Seated g.row.S.Denot). IsOne m.0.owned) (sym me) (subst (λ (ps : Pairs). IsOne (head_pairs ps)) (sym c.requires.some) refl);
  slots = subst (λ (m : Seated g.row.S.Denot). m.1 ≡ slots_for m.0.taken) (sym me) refl;
}
