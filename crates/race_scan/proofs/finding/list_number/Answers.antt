use Rattle.std.proofs.Common.{ℕ, subst}
use Rattle.trace_laws.specs.Reordering.{Accesses}
use Rattle.race_scan.specs.Listed.{AddsRaces}
use Rattle.race_scan.proofs.Adding.{adds_none}
use Rattle.race_scan.proofs.finding.list_number.Goals as goal

pub returns-in_default-clause-adds : goal.returns-in_default-clause-adds
returns-in_default-clause-adds c =
    let events = c.args.index.now.events in
    adds_none events (λ l. Accesses events l c.args.number) c.args.races.now.items (λ l access e less race. c.in_default.ensures (c.trace.ensures.variables l c.args.number access))

pub returns-clause-adds : goal.returns-clause-adds
returns-clause-adds c =
    let events = c.args.index.now.events in
    subst (λ (x : ℕ). AddsRaces events (λ l. Accesses events l x) c.args.races.now.items c.list_variable.new.races.items) c.in-Some.ensures.1 c.in_ok-list_variable.ensures.adds
