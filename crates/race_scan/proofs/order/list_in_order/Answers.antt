use Rattle.std.proofs.Common.{rules}
use Rattle.std.proofs.lemmas.List.Sorted.{IsNonDecreasingBy-from_sort_by_key}
use Rattle.trace_laws.specs.declared.finding.Race.{Race}
use Rattle.race_scan.proofs.Adding.{all_sorted}
use Rattle.race_scan.proofs.order.list_in_order.Goals as goal

pub returns-clause-races : goal.returns-clause-races
returns-clause-races c =
    let events = c.args.index.now.events in
    all_sorted events c.args.from c.args.to c.in_ok-races.races.items c.sort_by_key.new.self.items c.in_ok-races.ensures.races c.sort_by_key.ensures.permutation
    (IsNonDecreasingBy-from_sort_by_key (λ (r : Race). r.later) _ c.in_ok-sort_by_key.ensures.sorted (λ a r q k. search rules))
