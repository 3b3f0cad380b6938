use Rattle.std.proofs.Common.{◌<◌, subst}
use Rattle.trace_laws.specs.Traces.{History}
use Rattle.closed_fronts.proofs.links.link.Goals as goal

pub note-requires-clause-thread : goal.note-requires-clause-thread
note-requires-clause-thread c = subst (λ (h : History). c.event-event.result.thread < h.threads) c.trace-trace.ensures (c.len-place-end.ensures.trace.named c.loop-place.place c.event-event.result c.event-event.ensures).0
