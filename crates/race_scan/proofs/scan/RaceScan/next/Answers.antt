use Rattle.std.proofs.Common.{◌<◌, ◌≤◌, List, length, refl, ap, subst, arith, [], ◌∷◌, ◌+◌}
use Rattle.std.specs.Prelude.{Contains}
use Rattle.sp_base.specs.declared.limits.TheConstants.{MAX_EVENTS}
use Rattle.trace_laws.specs.Traces.{History}
use Rattle.trace_laws.specs.declared.finding.Race.{Race}
use Rattle.trace_laws.specs.Findings.{IsKeep, by_reorderings}
use Rattle.trace_laws.proofs.Places.{access_within}
use Rattle.race_scan.specs.Scans.{Scan}
use Rattle.race_scan.specs.Listed.{IsFirstListed}
use Rattle.race_scan.proofs.Keeping.{next_race}
use Rattle.race_scan.proofs.Adding.{none_of_all, first_of_all}
use Rattle.race_scan.proofs.scan.RaceScan.next.Goals as goal

pub returns-in_default-clause-ok : goal.returns-in_default-clause-ok
returns-in_default-clause-ok c =
    let s = c.self.inside in
    let none = subst (λ (xs : List Race). (r : Race) → Contains xs r → r.later < s.passed) c.deref.ensures.value c.in_default.ensures.none in
    (rw (← c.self.view_is) (none_of_all s.index.now.events s.from s.to s.passed (length s.index.now.events) s.races.items c.self.invariant.races none), refl)

pub overflow_add-self : goal.overflow_add-self
overflow_add-self c =
    let s = c.self.inside in
    let race = c.in-Some.race in
    let first = subst (λ (xs : List Race). IsFirstListed xs s.passed race) c.deref.ensures.value c.in-Some.ensures.some in
    let range = (c.self.invariant.races.right race first.listed).of in
    let within = access_within s.index.now.events race.later range.var range.accesses in
    let few = subst (λ (h : History). length h.events ≤ MAX_EVENTS) c.trace.ensures.value c.keep_of.ensures.few in
    omega arith

pub returns-clause-ok : goal.returns-clause-ok
returns-clause-ok c =
    let s = c.self.inside in
    let race = c.in-Some.race in
    let first = subst (λ (xs : List Race). IsFirstListed xs s.passed race) c.deref.ensures.value c.in-Some.ensures.some in
    let keep = subst (λ (h : History). IsKeep h.events h.threads (by_reorderings h.events) (race.earlier ∷ race.later ∷ []) c.in_ok-keep.keep) c.trace.ensures.value c.in_ok-keep.ensures.keep in
    let scan : Scan = record { trace = s.index.now; from = s.from; to = s.to; passed = s.passed } in
    (rw (← c.self.view_is) (next_race scan race.later race.earlier c.in_ok-keep.keep (first_of_all s.index.now.events s.from s.to s.passed s.races.items race c.self.invariant.races first) keep), ap (λ (x : Scan). record x { passed = race.later + 1 }) c.self.view_is)
