use Rattle.std.proofs.Common.{◌≡◌, Some, sym, ap, subst, ◌∙◌, arith}
use Rattle.std.specs.Prelude.{slice_get}
use Rattle.std.proofs.lemmas.Option.{slice_get-get_or}
use Rattle.trace_laws.specs.Traces.{History, IsTrace}
use Rattle.trace_laws.proofs.Places.{within_from_op, event_of, thread_from_event}
use Rattle.trace_laws.specs.declared.event.Op.TheVariants.{Acquire}
use Rattle.trace_index.specs.HeldSets.{IsAcquire}
use Rattle.trace_index.proofs.Acquiring.{number_of_section}
use Rattle.trace_index.proofs.index.Index.section_number.Goals as goal

pub returns : goal.returns
returns c =
    let x = c.self.inside in
    let h = x.fronts in
    let a = c.args.acquire in
    let k = c.index.result.now in
    let trace : IsTrace h.events h.threads = subst (λ (g : History). IsTrace g.events g.threads) (c.trace.ensures.value ∙ sym c.self.view_is) c.len.ensures.trace in
    let acquire : IsAcquire h.events a = subst (λ (g : History). IsAcquire g.events a) (sym c.self.view_is) c.requires in
    let found = event_of h.events a (Acquire acquire.0) acquire.1 in
    let within = within_from_op h.events a (Acquire acquire.0) acquire.1 in
    let size = c.self.invariant.positions.places in
    let at : slice_get x.positions.items a ≡ Some k = slice_get-get_or x.positions.items a k (omega arith) ∙ ap Some (sym c.index.ensures) in
    rw (← c.self.view_is) (number_of_section h.events h.threads x.acquires.items x.positions.items a k acquire.0 found.0.thread (trace.named a found.0 found.1).0
    (record { thread = thread_from_event h.events a found.0 found.1; op = acquire.1 }) c.self.invariant.acquires c.self.invariant.positions at)
