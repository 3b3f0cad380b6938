use Rattle.std.proofs.Common.{rules, ◌≡◌, Some, sym, subst, ◌∙◌}
use Rattle.std.specs.Option.{IsSome}
use Rattle.seat_lock.specs.Tallies.{AreTallied}
use Rattle.seat_lock.proofs.Ends.{closing}
use Rattle.seat_lock.proofs.lock.ended.Goals as goal

pub unwrap-requires : goal.unwrap-requires
unwrap-requires g c = let t = closing _ _ _ _ _ _ _ _ _ c.close_with-closed.ensures.values.2 c.requires.all c.requires.free c.take-state.ensures.value in subst (λ o. IsSome o) (sym t.there) (search rules)

pub returns : goal.returns
returns g c =
    let t = closing _ _ _ _ _ _ _ _ _ c.close_with-closed.ensures.values.2 c.requires.all c.requires.free c.take-state.ensures.value in
    let some : Some t.state ≡ Some c.unwrap.result = sym t.there ∙ c.unwrap.ensures in let is : t.state ≡ c.unwrap.result = cc in record {
      origin = subst (g.S.Tallied.one_origin c.args.table.shared.key.origin.value) is t.origin;
      tallies = subst (λ (x : g.row.S.Denot). AreTallied (g.S.Tallied.tally x) c.args.own.me.0.owned) is t.counts;
    }
