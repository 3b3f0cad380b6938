use Rattle.std.proofs.Common.{◌≡◌, ℕ, length, sym, ap, subst, ◌∙◌, arith}
use Rattle.trace_laws.specs.Event.{Event}
use Rattle.trace_laws.specs.Traces.{History}
use Rattle.closed_fronts.specs.Rows.{IsTorn, IsMended}
use Rattle.closed_fronts.proofs.Admissions.{admits_more}
use Rattle.closed_fronts.proofs.Joins.{room_less}
use Rattle.closed_fronts.proofs.Mends.{cut_within, admits_rise}
use Rattle.sp_closure.proofs.Asking.{asked_more, torn_rises}
use Rattle.sp_closure.specs.Asked.{AreAsked}
use Rattle.sp_closure.proofs.mending.mend.Goals as goal

pub loop-acquire-smaller : goal.loop-acquire-smaller
loop-acquire-smaller g c =
    let events = c.args.index.now.events in
    let a = c.loop-acquire.cuts in
    let b = c.mend_section.new.cuts in
    let torn : IsTorn events a c.in-Some.acquire = subst (λ (h : History). IsTorn h.events a c.in-Some.acquire) c.fronts-fronts.ensures c.in-Some.ensures.some in
    let rises = torn_rises events a b c.in-Some.acquire torn c.mend_section.ensures.ended in
    room_less (length events) a b rises.0 c.mend_section.ensures.admits.size (admits_rise events c.args.index.now.threads (λ _. ⊥) a b c.loop-acquire.invariant.steady c.mend_section.ensures.admits) rises.1
    (cut_within events c.args.index.now.threads b c.mend_section.ensures.steady rises.0)

pub loop-acquire-preserved : goal.loop-acquire-preserved
loop-acquire-preserved g c =
    let events = c.args.index.now.events in
    let a = c.loop-acquire.cuts in
    let b = c.mend_section.new.cuts in
    let at = c.loop-acquire.invariant in
    let torn : IsTorn events a c.in-Some.acquire = subst (λ (h : History). IsTorn h.events a c.in-Some.acquire) c.fronts-fronts.ensures c.in-Some.ensures.some in
    let asked = c.tick.ensures in
    let stepped = c.mend_section.ensures.steps in
    let rises = at.rises in
    let steps = at.steps in
    let less = c.event.ensures.thread in
    let known = ap (λ (h : History). h.threads) c.fronts-fronts.ensures in
    let thread : c.value-start.result ≡ c.event.result.thread = c.value-start.ensures.value ∙ ap (λ (e : Event). e.thread) c.event-in-Some.view_is in
    record {
      start = omega arith;
      steady = c.mend_section.ensures.steady;
      admits = admits_more events c.args.cuts.now a b at.admits c.mend_section.ensures.admits;
      asked = subst (λ (n : ℕ). AreAsked events b n) (sym c.tick.ensures) (asked_more events a b c.loop-acquire.asked c.in-Some.acquire c.mend_section.ensures.admits.keeps torn c.mend_section.ensures.ended at.asked);
      rises = omega arith;
      steps = omega arith;
    }

pub returns-clause-mended : goal.returns-clause-mended
returns-clause-mended g c = subst (λ (h : History). IsMended h.events c.loop-acquire.cuts) c.fronts-fronts.ensures c.in_default.ensures.none
