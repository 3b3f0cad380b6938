use Rattle.std.proofs.Common.{sym, subst}
use Rattle.std.proofs.lemmas.Bool.Decides.{Decides-eqb}
use Rattle.trace_laws.specs.Traces.{History}
use Rattle.trace_index.specs.HeldSets.{IsAcquire}
use Rattle.trace_index.proofs.HeldNumbers.{number_at, one_number}
use Rattle.trace_index.proofs.index.Index.same_held.Goals as goal

pub returns : goal.returns
returns c =
    let x = c.self.inside in
    let events = x.fronts.events in
    let a = c.args.a in
    let b = c.args.b in
    let k = c.index.result.now in
    let m = c.index-2.result.now in
    let first : IsAcquire events a = subst (λ (h : History). IsAcquire h.events a) (sym c.self.view_is) c.requires.a in
    let second : IsAcquire events b = subst (λ (h : History). IsAcquire h.events b) (sym c.self.view_is) c.requires.b in
    let one = one_number events x.sets c.self.invariant.held.distinct a b k m (number_at events x.sets x.firsts.items x.held.items c.self.invariant.held a k first c.index.ensures) (number_at events x.sets x.firsts.items x.held.items c.self.invariant.held b m second c.index-2.ensures) in
    rw (← c.self.view_is) (λ t. one.0 ((Decides-eqb k m).0 t), λ h. (Decides-eqb k m).1 (one.1 h))
