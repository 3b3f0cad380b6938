use Rattle.std.proofs.Common.{◌≡◌, Some, slice_get, sym, ap, subst, ◌∙◌, arith}
use Rattle.std.proofs.lemmas.Option.{slice_get-get_or}
use Rattle.trace_laws.specs.Traces.{History}
use Rattle.trace_laws.specs.declared.event.Op.TheVariants.{Acquire}
use Rattle.trace_laws.specs.Trace.{op_at}
use Rattle.trace_laws.proofs.Places.{within_from_op}
use Rattle.closed_fronts.proofs.places.Places.release.Goals as goal

pub returns : goal.returns
returns c =
    let events = c.self.inside.trace.now.events in
    let place = c.args.place in
    let l = c.requires.0 in
    let op : op_at events place ≡ Some (Acquire l) = subst (λ (h : History). op_at h.events place ≡ Some (Acquire l)) (sym c.self.view_is) c.requires.1 in
    let within = within_from_op events place (Acquire l) op in
    let size = c.self.invariant.releases_size in
    let entry : slice_get c.self.inside.releases.items place ≡ Some c.index.result.now = slice_get-get_or c.self.inside.releases.items place c.index.result.now (omega arith) ∙ ap Some (sym c.index.ensures) in
    rw (← c.self.view_is) (c.self.invariant.releases place l c.index.result.now op entry)
