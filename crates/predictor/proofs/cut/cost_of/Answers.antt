use Rattle.std.proofs.Common.{length, sym, subst, ◌<◌}
use Rattle.trace_laws.specs.Traces.{History}
use Rattle.trace_laws.proofs.Places.{access_within}
use Rattle.predictor.proofs.cut.cost_of.Goals as goal

pub threads_at-requires : goal.threads_at-requires
threads_at-requires c = λ p listed.
    let within = access_within c.args.index.now.events p c.in-Some.var ((c.accesses-places.ensures.members p).0 listed) in
    subst (λ (h : History). p < length h.events) (sym c.trace.ensures.value) within
