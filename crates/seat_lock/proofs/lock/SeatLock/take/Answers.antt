use Rattle.std.proofs.Common.{rules, Some, [], ◌∷◌, ap, sym, ◌∙◌}
use Rattle.atomic_table.specs.Table.{rest}
use Rattle.seat_lock.specs.Steps.{Seated}
use Rattle.seat_lock.proofs.Takes.{may_take}
use Rattle.seat_lock.proofs.lock.SeatLock.take.Goals as goal

pub compare_exchange-found-requires : goal.compare_exchange-found-requires
compare_exchange-found-requires g c = let me = c.loop.invariant.1 in (search rules, search rules, may_take _ _ _ _ _ _ _ _ [] c.loop.seat.one (ap (λ (m : Seated g.row.S.Denot). m.0.taken) me ∙ c.requires.free))

pub exchange-requires : goal.exchange-requires
exchange-requires g c = let t = c.compare_exchange-found.ensures.2.free c.if-found-eq0.true in let held = ap (λ (m : Seated g.row.S.Denot). m.1) t.left in
    (search rules, (Some t.state, held ∙ ap (λ l. (0, Some t.state) ∷ rest l) (sym held)))
