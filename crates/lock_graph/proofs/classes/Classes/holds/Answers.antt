use Rattle.std.proofs.Common.{sym, subst}
use Rattle.std.specs.Prelude.{◌↔◌, IsTrue}
use Rattle.trace_laws.specs.Traces.{History}
use Rattle.trace_index.specs.HeldSets.{IsAcquire, IsHeldAt}
use Rattle.lock_graph.proofs.Reading.{holds_tells}
use Rattle.lock_graph.proofs.classes.Classes.holds.Goals as goal

pub holds-requires : goal.holds-requires
holds-requires c = subst (λ (h : History). IsAcquire h.events c.first.result) (sym c.index.ensures) c.first.ensures.acquire

pub returns : goal.returns
returns c = λ k at. holds_tells c.args.self.now.trace.events k c.first.result c.args.lock c.holds.result (c.first.ensures.class k at) (subst (λ (h : History). IsTrue c.holds.result ↔ IsHeldAt h.events c.first.result c.args.lock) c.index.ensures c.holds.ensures)
