use Rattle.trace_laws.specs.Findings.{by_reorderings}
use Rattle.trace_laws.specs.Closed.{by_closure}
use Rattle.trace_laws.proofs.Determined.{findings_are_determined_lem}
use Rattle.trace_laws.proofs.laws.findings_are_determined.Goals as goal

pub returns : goal.returns
returns c = record {
  reorderings = findings_are_determined_lem by_reorderings;
  closures = findings_are_determined_lem by_closure;
}
