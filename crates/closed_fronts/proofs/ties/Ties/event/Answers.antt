use Rattle.std.proofs.Common.{◌≡◌, Some, slice_get, subst}
use Rattle.trace_laws.specs.Traces.{History}
use Rattle.closed_fronts.proofs.ties.Ties.event.Goals as goal

pub returns-clause-thread : goal.returns-clause-thread
returns-clause-thread c =
    let at = subst (λ (h : History). slice_get h.events c.args.place ≡ Some c.event.result) c.trace.ensures c.event.ensures in
    rw (← c.self.view_is) (c.self.invariant.trace.named c.args.place c.event.result at).0
