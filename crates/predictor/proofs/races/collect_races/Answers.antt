use Rattle.std.proofs.Common.{◌≡◌, ℕ, ◌+◌, List, [], ◌∷◌, ◌++◌, length, map, refl, sym, ap, subst, ◌∙◌}
use Rattle.std.proofs.lemmas.List.{map-append}
use Rattle.trace_laws.specs.declared.finding.Race.{Race}
use Rattle.trace_laws.specs.Findings.{FoundRace}
use Rattle.race_scan.specs.Scans.{Scan, GivesNext, IsNextRace, NoRaceBetween, found_race}
use Rattle.predictor.specs.Parts.{race_found}
use Rattle.predictor.proofs.Collecting.{Collected, scan_at, collected_none, collected_more, collected_all}
use Rattle.predictor.proofs.races.collect_races.Goals as goal

pub loop-found-init : goal.loop-found-init
loop-found-init c = record {
  same = refl;
  collected = subst (λ (xs : List (Race × List ℕ)). Collected c.args.scan.now c.args.scan.now.passed (map race_found xs)) (sym c.new-found.ensures.items)
      (subst (λ (n : ℕ). Collected c.args.scan.now n []) (sym c.requires) (collected_none c.args.scan.now));
}

pub loop-found-preserved : goal.loop-found-preserved
loop-found-preserved c =
    let first = c.args.scan.now in
    let at = c.loop-found in
    let new = c.next.new.self in
    let one : FoundRace = found_race c.in-Some.race c.in-Some.keep in
    let given = subst (λ o. GivesNext at.scan o new) c.in-Some.is c.in_ok-race.ensures.ok in
    let passed : new.passed ≡ one.later + 1 = ap (λ (s : Scan). s.passed) given.1 in
    let next : IsNextRace (scan_at first at.scan.passed) one = subst (λ (s : Scan). IsNextRace s one) at.invariant.same given.0 in
    let added : map race_found c.push.new.self.items ≡ map race_found at.found.items ++ one ∷ [] = ap (map race_found) c.in-Ok.ensures.items ∙ map-append race_found at.found.items ((c.in-Some.race, c.in-Some.keep) ∷ []) in
    record {
      same = given.1 ∙ ap (λ (s : Scan). scan_at s (one.later + 1)) at.invariant.same ∙ ap (scan_at first) (sym passed);
      collected = subst (Collected first new.passed) (sym added) (subst (λ (n : ℕ). Collected first n (map race_found at.found.items ++ one ∷ [])) (sym passed) (collected_more first at.scan.passed (map race_found at.found.items) one at.invariant.collected next));
    }

pub returns : goal.returns
returns c =
    let first = c.args.scan.now in
    let at = c.loop-found in
    let given = subst (λ o. GivesNext at.scan o c.next.new.self) c.in_default.is c.in_ok-race.ensures.ok in
    collected_all first at.scan.passed (map race_found at.found.items) at.invariant.collected (subst (λ (s : Scan). NoRaceBetween s.trace.events s.from s.to s.passed (length s.trace.events)) at.invariant.same given.0)
