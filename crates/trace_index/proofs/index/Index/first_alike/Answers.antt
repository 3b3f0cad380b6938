use Rattle.std.proofs.Common.{sym, subst, arith}
use Rattle.trace_laws.specs.Traces.{History}
use Rattle.trace_index.specs.HeldSets.{IsAcquire}
use Rattle.trace_index.proofs.HeldNumbers.{number_within, first_is}
use Rattle.trace_index.proofs.index.Index.first_alike.Goals as goal

pub index-requires-2 : goal.index-requires-2
index-requires-2 c =
    let x = c.self.inside in
    let acquire : IsAcquire x.fronts.events c.args.place = subst (λ (h : History). IsAcquire h.events c.args.place) (sym c.self.view_is) c.requires in
    let within = number_within x.fronts.events x.sets x.firsts.items x.held.items c.self.invariant.held c.args.place c.index.result.now acquire c.index.ensures in
    let known = c.self.invariant.held.known in
    omega arith

pub returns : goal.returns
returns c =
    let x = c.self.inside in
    let acquire : IsAcquire x.fronts.events c.args.place = subst (λ (h : History). IsAcquire h.events c.args.place) (sym c.self.view_is) c.requires in
    rw (← c.self.view_is) (first_is x.fronts.events x.sets x.firsts.items x.held.items c.self.invariant.held c.args.place c.index.result.now c.index-2.result.now acquire c.index.ensures c.index-2.ensures)
