use Rattle.std.proofs.Common.{◌≡◌, ◌+◌, length, refl, ap, ◌∙◌, arith}
use Rattle.trace_laws.specs.Event.{Event}
use Rattle.trace_laws.proofs.Places.{within_from_thread}
use Rattle.closed_fronts.proofs.Admissions.{admits_forced, admits_more}
use Rattle.closed_fronts.proofs.Joins.{room_less}
use Rattle.closed_fronts.proofs.Mends.{broken_within, broken_forced, broken_rises, broken_release, admits_rise}
use Rattle.closed_fronts.proofs.mending.mend.Goals as goal

pub unreachable-requires : goal.unreachable-requires
unreachable-requires c =
    let torn = c.in-Some.ensures.some in
    let some = (c.release.ensures torn.0).1 torn.1.release in
    let none = c.in_default-release.is in
    cc

pub admit_row-requires-clause-place : goal.admit_row-requires-clause-place
admit_row-requires-clause-place c = broken_within c.args.ties.now.events c.len.ensures.trace.lawful c.loop-acquire.cuts (length c.args.rows.now) c.in-Some.acquire c.in-Some-release.release c.loop-acquire.invariant.within (broken_release c.args.ties.now.events c.loop-acquire.cuts c.in-Some.acquire c.in-Some-release.release c.release.result c.in-Some.ensures.some c.release.ensures c.in-Some-release.is)

pub event-requires : goal.event-requires
event-requires c = let first = c.in-Some.ensures.some.1.first in within_from_thread c.args.ties.now.events c.in-Some.acquire first.thread first.is_of

pub loop-acquire-smaller : goal.loop-acquire-smaller
loop-acquire-smaller c =
    let events = c.args.ties.now.events in
    let a = c.loop-acquire.cuts in
    let b = c.admit_row.new.cuts in
    let r = c.in-Some-release.release in
    let rises = broken_rises events a b c.in-Some.acquire r (broken_release c.args.ties.now.events c.loop-acquire.cuts c.in-Some.acquire c.in-Some-release.release c.release.result c.in-Some.ensures.some c.release.ensures c.in-Some-release.is) (c.admit_row.ensures.admits.holds r refl) in
    room_less (length c.args.rows.now + 1) a b rises.0 c.admit_row.ensures.admits.size (admits_rise events c.args.ties.now.threads (λ i. i ≡ r) a b c.loop-acquire.invariant.steady c.admit_row.ensures.admits) rises.1 (c.admit_row.ensures.within rises.0)

pub loop-acquire-preserved : goal.loop-acquire-preserved
loop-acquire-preserved c =
    let events = c.args.ties.now.events in
    let a = c.loop-acquire.cuts in
    let b = c.admit_row.new.cuts in
    let r = c.in-Some-release.release in
    let less = c.event.ensures.thread in
    record {
      start = (let thread : c.value-start.result ≡ c.event.result.thread = c.value-start.ensures.value ∙ ap (λ (e : Event). e.thread) c.event-in-Some.view_is in omega arith);
      steady = c.admit_row.ensures.steady;
      within = c.admit_row.ensures.within;
      admits = admits_more events c.args.cuts.now a b c.loop-acquire.invariant.admits (admits_forced events (λ i. i ≡ r) a b (broken_forced events a c.in-Some.acquire r (broken_release c.args.ties.now.events c.loop-acquire.cuts c.in-Some.acquire c.in-Some-release.release c.release.result c.in-Some.ensures.some c.release.ensures c.in-Some-release.is)) c.admit_row.ensures.admits);
    }
