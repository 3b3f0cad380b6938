use Rattle.std.proofs.Common.{◌≡◌, ℕ, Some, subst}
use Rattle.std.specs.Prelude.{◌↔◌}
use Rattle.trace_laws.specs.Traces.{History}
use Rattle.trace_laws.specs.Trace.{IsReleaseOf}
use Rattle.trace_index.proofs.index.Index.release.Goals as goal

pub returns : goal.returns
returns c = rw (← c.self.view_is) (subst (λ (h : History). (r : ℕ) → (c.release.result ≡ Some r) ↔ IsReleaseOf h.events c.args.place r) c.places.ensures c.release.ensures)
