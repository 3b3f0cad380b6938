use Rattle.std.proofs.Common.{sym, subst, arith}
use Rattle.trace_laws.specs.Traces.{History}
use Rattle.closed_fronts.specs.Rows.{IsSteady}
use Rattle.closed_fronts.proofs.Mends.{cut_within}
use Rattle.closed_fronts.proofs.fronts.Fronts.admit.Goals as goal

pub admit_row-requires-clause-within : goal.admit_row-requires-clause-within
admit_row-requires-clause-within c = λ t.
    let steady = subst (λ (h : History). IsSteady h.events h.threads c.args.cuts.now) (sym c.self.view_is) c.requires.steady in
    let within = cut_within c.self.inside.ties.events c.self.inside.ties.threads c.args.cuts.now steady t in
    let size = c.self.invariant.size in
    omega arith
