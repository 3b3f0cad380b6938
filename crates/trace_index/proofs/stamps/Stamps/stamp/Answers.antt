use Rattle.std.proofs.Common.{◌<◌, ℕ, List, length, sym, subst}
use Rattle.trace_laws.specs.Traces.{History}
use Rattle.trace_index.specs.Stamps.{IsStamp, row_at}
use Rattle.trace_index.proofs.Stamping.{row_sliced, stamp_is}
use Rattle.trace_index.proofs.stamps.Stamps.stamp.Goals as goal

pub returns : goal.returns
returns c =
    let x = c.self.inside in
    let h = x.fronts.now in
    let p = c.args.place in
    let less : p < length h.events = subst (λ (g : History). p < length g.events) (sym c.self.view_is) c.requires in
    let row = row_at x.counts.items h.threads p in
    rw (← c.self.view_is) (subst (λ (xs : List ℕ). IsStamp h.events h.threads p xs) (row_sliced x.counts.items c.deref.result.now h.threads c.threads-width.result p c.threads-width.ensures.value c.deref.ensures.value) (stamp_is h.events h.threads p row (c.self.invariant.rows p less)))
