use Rattle.std.proofs.Common.{rules, Option, ap, ◌∙◌}
use Rattle.atomic_table.specs.declared.shared.Seat.{Seat}
use Rattle.seat_lock.specs.declared.rule.View.{View}
use Rattle.seat_lock.specs.Views.{slots_for}
use Rattle.seat_lock.proofs.Cuts.{may_join}
use Rattle.seat_lock.proofs.seat.absorb.Goals as goal

pub join_seat-requires : goal.join_seat-requires
join_seat-requires g c = let is = c.open.ensures in let seat = c.args.seat in (
  search rules,
  ap (λ (s : Seat (Option g.row.S.Denot) (View g.row.S.Denot)). s.table_id) is ∙ c.requires.seat.0,
  ap (λ (s : Seat (Option g.row.S.Denot) (View g.row.S.Denot)). s.me.1) is ∙ (seat.slots ∙ ap slots_for c.requires.seat.1),
  search rules,
  may_join _ _ _ _ _ _ _ _ _ _ c.requires.some c.requires.free (ap (λ (s : Seat (Option g.row.S.Denot) (View g.row.S.Denot)). s.me.0.taken) is ∙ c.requires.seat.1),
)
