use Rattle.std.proofs.Common.{sym, subst}
use Rattle.trace_laws.specs.Traces.{History}
use Rattle.trace_index.specs.HeldSets.{IsAcquire}
use Rattle.trace_index.proofs.HeldNumbers.{number_within, held_is}
use Rattle.trace_index.proofs.index.Index.held.Goals as goal

pub set-requires : goal.set-requires
set-requires c =
    let x = c.self.inside in
    let acquire : IsAcquire x.fronts.events c.args.place = subst (λ (h : History). IsAcquire h.events c.args.place) (sym c.self.view_is) c.requires in
    number_within x.fronts.events x.sets x.firsts.items x.held.items c.self.invariant.held c.args.place c.index.result.now acquire c.index.ensures

pub returns : goal.returns
returns c =
    let x = c.self.inside in
    let acquire : IsAcquire x.fronts.events c.args.place = subst (λ (h : History). IsAcquire h.events c.args.place) (sym c.self.view_is) c.requires in
    rw (← c.self.view_is) (held_is x.fronts.events x.sets x.firsts.items x.held.items c.self.invariant.held c.args.place c.index.result.now c.set.result.now acquire c.index.ensures c.set.ensures)
