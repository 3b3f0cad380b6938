use Rattle.std.proofs.Common.{◌≡◌, List, ℕ, Some, sym, ap, subst, ◌∙◌, arith}
use Rattle.std.specs.Prelude.{slice_get}
use Rattle.std.proofs.lemmas.Option.{slice_get-get_or}
use Rattle.trace_laws.specs.Traces.{History}
use Rattle.trace_laws.specs.declared.event.Op.TheVariants.{Acquire}
use Rattle.trace_laws.specs.Trace.{op_at}
use Rattle.trace_laws.proofs.Places.{within_from_op}
use Rattle.closed_fronts.specs.Tables.{IsNextRow}
use Rattle.closed_fronts.proofs.ties.Ties.next.Goals as goal

pub returns : goal.returns
returns c =
    let events = c.self.inside.places.events in
    let a = c.args.acquire in
    let l = c.requires.0 in
    let op : op_at events a ≡ Some (Acquire l) = subst (λ (h : History). op_at h.events a ≡ Some (Acquire l)) (sym c.self.view_is) c.requires.1 in
    let within = within_from_op events a (Acquire l) op in
    let size = c.self.invariant.next_size in
    let at : slice_get c.self.inside.next.items a ≡ Some c.index.result.now = slice_get-get_or c.self.inside.next.items a c.index.result.now (omega arith) ∙ ap Some (sym c.index.ensures) in
    rw (← c.self.view_is) (subst (λ (k : List ℕ). IsNextRow events c.self.inside.places.threads a k) (sym c.deref.ensures.value) (c.self.invariant.next_rows a c.index.result.now at))
