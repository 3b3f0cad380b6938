use Rattle.std.proofs.Common.{◌≡◌, ℕ, List, [], ◌∷◌}
use Rattle.trace_laws.specs.Findings.{IsKeep, by_reorderings}
use Rattle.race_scan.proofs.Keeping.{keep_by_cursor, if_ok}
use Rattle.race_scan.proofs.order.keep_of.Goals as goal

pub returns-clause-keep : goal.returns-clause-keep
returns-clause-keep c =
    let trace = c.args.trace.now in
    let race = c.args.race.now in
    if_ok c.new.result (λ (keep : List ℕ). keep ≡ c.counts.result.now) (IsKeep trace.events trace.threads (by_reorderings trace.events) (race.earlier ∷ race.later ∷ [])) c.new.ensures
    (λ keep is. keep_by_cursor trace c.args.set.now c.raise.new.self race.earlier race.later c.counts.result.now keep c.len.ensures.trace.lawful c.requires.trace c.raise.ensures.trace c.requires.race c.raise.ensures.closure c.counts.ensures is)
