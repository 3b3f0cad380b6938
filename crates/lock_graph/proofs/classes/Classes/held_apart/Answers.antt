use Rattle.std.proofs.Common.{sym, subst}
use Rattle.std.specs.Prelude.{◌↔◌, IsTrue}
use Rattle.trace_laws.specs.Traces.{History}
use Rattle.trace_index.specs.HeldSets.{IsAcquire, HaveNoneCommon}
use Rattle.lock_graph.proofs.Reading.{apart_tells}
use Rattle.lock_graph.proofs.classes.Classes.held_apart.Goals as goal

pub apart-requires-clause-a : goal.apart-requires-clause-a
apart-requires-clause-a c = subst (λ (h : History). IsAcquire h.events c.first.result) (sym c.index.ensures) c.first.ensures.acquire

pub apart-requires-clause-b : goal.apart-requires-clause-b
apart-requires-clause-b c = subst (λ (h : History). IsAcquire h.events c.first-2.result) (sym c.index.ensures) c.first-2.ensures.acquire

pub returns : goal.returns
returns c = λ x y at_x at_y. apart_tells c.args.self.now.trace.events x y c.first.result c.first-2.result c.apart.result (c.first.ensures.class x at_x) (c.first-2.ensures.class y at_y) (subst (λ (h : History). IsTrue c.apart.result ↔ HaveNoneCommon h.events c.first.result c.first-2.result) c.index.ensures c.apart.ensures)
