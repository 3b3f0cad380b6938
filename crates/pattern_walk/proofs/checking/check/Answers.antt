use Rattle.std.proofs.Common.{◌<◌, ℕ, List, length, sym, subst, ◌∙◌}
use Rattle.trace_laws.specs.Traces.{History}
use Rattle.trace_laws.specs.Findings.{IsFoundDeadlock}
use Rattle.trace_laws.specs.Closed.{IsClosureBefore, by_closure}
use Rattle.sp_closure.specs.Members.{has, IsAtMostSections}
use Rattle.pattern_walk.specs.Cycles.{classes_of}
use Rattle.pattern_walk.proofs.Picking.{picks_within, first_are_least}
use Rattle.pattern_walk.proofs.Stepping.{steps_few}
use Rattle.pattern_walk.proofs.Moving.{found}
use Rattle.pattern_walk.proofs.checking.check.Goals as goal

pub raise_all-requires : goal.raise_all-requires
raise_all-requires g c = λ a m. subst (λ (h : History). a < length h.events) (sym c.requires.trace) (picks_within c.args.classes.now c.args.pattern.now c.requires.pattern c.in_ok-instance.instance.positions.items c.in_ok-instance.instance.picks.items c.in_ok-instance.ensures.at a m)

pub settle-requires-clause-underway : goal.settle-requires-clause-underway
settle-requires-clause-underway g c =
    let positions = c.in_ok-instance.instance.positions.items in
    let picks = c.in_ok-instance.instance.picks.items in
    let cursor = c.raise_all.new.cursor in
    record {
      trace = c.raise_all.ensures.trace ∙ c.requires.trace;
      at = c.in_ok-instance.ensures.at;
      closure = subst (λ (h : History). IsClosureBefore h.events picks (has cursor.members)) c.requires.trace c.raise_all.ensures.closure;
      least = first_are_least c.args.classes.now c.args.pattern.now c.requires.pattern positions picks c.in_ok-instance.ensures.at c.in_ok-instance.ensures.first;
    }

pub settle-requires-clause-few : goal.settle-requires-clause-few
settle-requires-clause-few g c = subst (λ (h : History). IsAtMostSections h.events c.raise_all.new.cursor.asked) (sym c.raise_all.ensures.trace) c.raise_all.ensures.few

pub returns-clause-found : goal.returns-clause-found
returns-clause-found g c =
    let trace = c.args.classes.now.trace in
    let pattern = classes_of c.args.classes.now.classes c.args.pattern.now in
    let picks = c.settle.new.instance.picks.items in
    let keep = c.in_ok-keep.keep in
    subst (λ (xs : List ℕ). IsFoundDeadlock trace.events trace.threads (by_closure trace.events) pattern (record { picks = xs; keep = keep })) (sym (c.new-2.ensures ∙ c.deref.ensures.value))
    (found c.args.classes.now c.args.pattern.now c.requires.pattern c.settle.new.instance.positions.items picks c.settle.new.cursor (c.settle.ensures.underway c.if-not-settle.false) c.counts.result.now keep (c.settle.ensures.outside c.if-not-settle.false) c.counts.ensures c.in_ok-keep.ensures)

pub returns-then-not-settle-clause-steps : goal.returns-then-not-settle-clause-steps
returns-then-not-settle-clause-steps g c =
    let few = subst (λ (h : History). IsAtMostSections h.events c.settle.new.cursor.asked) (c.settle.ensures.trace ∙ c.raise_all.ensures.trace ∙ c.requires.trace) c.settle.ensures.few in
    steps_few c.args.classes.now.trace.events c.args.classes.now.classes c.args.pattern.now c.in_ok-instance.instance.positions.items c.in_ok-instance.instance.picks.items c.args.steps.now c.raise_all.new.steps c.settle.new.steps c.raise_all.new.cursor.asked c.settle.new.cursor.asked c.in_ok-instance.ensures.at c.in_ok-instance.ensures.first c.raise_all.ensures.steps c.settle.ensures.steps few

pub returns-in_err-keep-clause-steps : goal.returns-in_err-keep-clause-steps
returns-in_err-keep-clause-steps g c =
    let few = subst (λ (h : History). IsAtMostSections h.events c.settle.new.cursor.asked) (c.settle.ensures.trace ∙ c.raise_all.ensures.trace ∙ c.requires.trace) c.settle.ensures.few in
    steps_few c.args.classes.now.trace.events c.args.classes.now.classes c.args.pattern.now c.in_ok-instance.instance.positions.items c.in_ok-instance.instance.picks.items c.args.steps.now c.raise_all.new.steps c.settle.new.steps c.raise_all.new.cursor.asked c.settle.new.cursor.asked c.in_ok-instance.ensures.at c.in_ok-instance.ensures.first c.raise_all.ensures.steps c.settle.ensures.steps few

pub returns-clause-steps : goal.returns-clause-steps
returns-clause-steps g c =
    let few = subst (λ (h : History). IsAtMostSections h.events c.settle.new.cursor.asked) (c.settle.ensures.trace ∙ c.raise_all.ensures.trace ∙ c.requires.trace) c.settle.ensures.few in
    steps_few c.args.classes.now.trace.events c.args.classes.now.classes c.args.pattern.now c.in_ok-instance.instance.positions.items c.in_ok-instance.instance.picks.items c.args.steps.now c.raise_all.new.steps c.settle.new.steps c.raise_all.new.cursor.asked c.settle.new.cursor.asked c.in_ok-instance.ensures.at c.in_ok-instance.ensures.first c.raise_all.ensures.steps c.settle.ensures.steps few
