use Rattle.std.proofs.Common.{◌≡◌, ◌<◌, Some, length, sym, subst}
use Rattle.std.specs.Prelude.{slice_get}
use Rattle.trace_laws.specs.Traces.{History}
use Rattle.race_scan.proofs.candidates.event_at.Goals as goal

pub event-requires : goal.event-requires
event-requires c = subst (λ (h : History). c.args.place < length h.events) (sym c.trace.ensures.value) c.requires

pub returns : goal.returns
returns c = subst (λ (h : History). slice_get h.events c.args.place ≡ Some c.event.result) c.trace.ensures.value c.event.ensures
