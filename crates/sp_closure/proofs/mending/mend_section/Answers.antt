use Rattle.std.proofs.Common.{◌≡◌, ◌<◌, length, sym, subst}
use Rattle.trace_laws.specs.Traces.{History}
use Rattle.closed_fronts.specs.Cuts.{Admits}
use Rattle.closed_fronts.proofs.Admissions.{admits_forced}
use Rattle.closed_fronts.proofs.Mends.{broken_release, broken_place, broken_forced}
use Rattle.sp_closure.proofs.mending.mend_section.Goals as goal

pub unreachable-requires : goal.unreachable-requires
unreachable-requires g c =
    let torn = c.requires.torn in
    let some = (c.ask.ensures.release torn.0).1 torn.1.release in
    let none = c.in_default.is in
    cc

pub admit-requires-clause-place : goal.admit-requires-clause-place
admit-requires-clause-place g c =
    let events = c.args.index.now.events in
    let cuts = c.args.cuts.now in
    let broken = broken_release events cuts c.args.acquire c.in-Some.release c.ask.result c.requires.torn c.ask.ensures.release c.in-Some.is in
    subst (λ (h : History). c.in-Some.release < length h.events) (sym c.fronts.ensures) (broken_place events cuts c.args.acquire c.in-Some.release broken)

pub returns-clause-admits : goal.returns-clause-admits
returns-clause-admits g c =
    let events = c.args.index.now.events in
    let cuts = c.args.cuts.now in
    let r = c.in-Some.release in
    let broken = broken_release events cuts c.args.acquire r c.ask.result c.requires.torn c.ask.ensures.release c.in-Some.is in
    admits_forced events (λ i. i ≡ r) cuts c.admit.new.cuts (broken_forced events cuts c.args.acquire r broken) (subst (λ (h : History). Admits h.events (λ i. i ≡ r) cuts c.admit.new.cuts) c.fronts.ensures c.admit.ensures.admits)
