use Rattle.std.proofs.Common.{◌≡◌, ℕ, List, sym, subst}
use Rattle.trace_laws.specs.declared.finding.Race.{Race}
use Rattle.race_scan.specs.Partners.{NoRaceBelow}
use Rattle.race_scan.specs.Listed.{AddsRaces}
use Rattle.race_scan.proofs.Adding.{adds_none, adds_one}
use Rattle.race_scan.proofs.finding.list_race.Goals as goal

pub returns-in_default-clause-adds : goal.returns-in_default-clause-adds
returns-in_default-clause-adds c =
    let events = c.args.index.now.events in
    adds_none events (λ l. l ≡ c.args.later) c.args.races.now.items (λ l same. subst (λ (k : ℕ). NoRaceBelow events k k) (sym same) c.in_default.ensures.none)

pub returns-clause-adds : goal.returns-clause-adds
returns-clause-adds c =
    let events = c.args.index.now.events in
    let old = c.args.races.now.items in
    let race : Race = record { later = c.args.later; earlier = c.in-Some.earlier } in
    subst (λ (xs : List Race). AddsRaces events (λ l. l ≡ c.args.later) old xs) (sym c.in_ok-push.ensures.items) (adds_one events old race c.in-Some.ensures.some)
