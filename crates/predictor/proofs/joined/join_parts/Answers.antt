use Rattle.std.proofs.Common.{◌≡◌, ℕ, ◌+◌, ◌-◌, ◌<◌, Some, [], ◌∷◌, ◌++◌, length, get_or, map, refl, sym, ap, subst, ◌∙◌, arith, length-append}
use Rattle.std.specs.Prelude.{All, slice_get}
use Rattle.std.proofs.lemmas.Iterator.Consumers.{YieldsList-turn, YieldsList-end}
use Rattle.std.proofs.lemmas.Iterator.Adapters.{YieldsList-from_vec}
use Rattle.std.proofs.lemmas.Option.{slice_get_read}
use Rattle.sp_base.specs.declared.limits.TheConstants.{MAX_VARS}
use Rattle.trace_laws.specs.Traces.{History}
use Rattle.trace_laws.specs.Findings.{IsFoundRace, by_reorderings}
use Rattle.trace_index.specs.Accessed.{AreVariablesBelow}
use Rattle.pattern_walk.specs.Cycles.{classes_of}
use Rattle.predictor.specs.Borders.{border}
use Rattle.predictor.specs.Parts.{race_found, AreFilled, AreSlots}
use Rattle.predictor.specs.Searches.{AreDeadlocks}
use Rattle.predictor.specs.declared.cut.Border.{Border}
use Rattle.predictor.proofs.Joining.{HasJoined, joined_none, joined_more, few_more, borders_at}
use Rattle.predictor.proofs.Slotting.{filled_none}
use Rattle.predictor.proofs.joined.join_parts.Goals as goal

pub loop-part-init : goal.loop-part-init
loop-part-init c =
    let graph = c.args.classes.now in
    let listed = c.args.patterns.now in
    let slots = c.in_ok-slots.slots.items in
    let same = c.trace-trace.ensures.value ∙ c.index.ensures in
    let size : length slots ≡ length graph.trace.events = c.in_ok-slots.ensures.size ∙ c.len-2.ensures.value ∙ ap (λ (h : History). length h.events) same in
    record {
      alone = c.new-found.ensures.races;
      joined = λ b at.
          let first = c.requires.borders.rise.first in
          let is : border 0 0 ≡ b = cc in
          subst (λ (to : Border). HasJoined graph listed to slots c.new-found.result) is (joined_none graph listed slots c.new-found.result size c.in_ok-slots.ensures.empty c.new-found.ensures.deadlocks);
    }

pub fill_slots-requires-clause-slots : goal.fill_slots-requires-clause-slots
fill_slots-requires-clause-slots c =
    let n = length c.loop-part.yielded in
    let parts = c.args.parts.items in
    let borders = c.args.borders.now in
    let gives = c.into_iter-part-iterator.ensures.into_iter_gives in
    let turn = YieldsList-turn (YieldsList-from_vec {s = c.into_iter-part-iterator.result} parts gives.0 (gives.1 ∙ c.args.parts.ok.0)) c.loop-part.yielded c.loop-part.part-iterator c.loop-part.yielded_by c.next.result c.next.new.self c.in-Some.part c.in-Some.is c.next.ensures.steps in
    let less : n < length parts = turn.0 in
    let all = c.requires.all in
    let at = borders_at borders n (omega arith) in
    let from = get_or borders n (border 0 0) in
    let joined = c.loop-part.invariant.joined from at.0 in
    let same = c.trace-trace.ensures.value ∙ c.index.ensures in
    subst (λ (h : History). AreFilled h c.loop-part.slots.items [] c.loop-part.slots.items) (sym same) (filled_none c.args.classes.now.trace from.variable c.loop-part.slots.items joined.races)

pub fill_slots-requires-clause-races : goal.fill_slots-requires-clause-races
fill_slots-requires-clause-races c =
    let n = length c.loop-part.yielded in
    let parts = c.args.parts.items in
    let part = c.in-Some.part in
    let borders = c.args.borders.now in
    let gives = c.into_iter-part-iterator.ensures.into_iter_gives in
    let turn = YieldsList-turn (YieldsList-from_vec {s = c.into_iter-part-iterator.result} parts gives.0 (gives.1 ∙ c.args.parts.ok.0)) c.loop-part.yielded c.loop-part.part-iterator c.loop-part.yielded_by c.next.result c.next.new.self part c.in-Some.is c.next.ensures.steps in
    let less : n < length parts = turn.0 in
    let all = c.requires.all in
    let at = borders_at borders n (omega arith) in
    let between = (c.requires.parts n part (slice_get_read parts (length parts) n part refl turn.0 turn.1)).between (get_or borders n (border 0 0)) (get_or borders (n + 1) (border 0 0)) at.0 at.1 in
    let same = c.trace-trace.ensures.value ∙ c.index.ensures in
    subst (λ (h : History). All (IsFoundRace h.events h.threads (by_reorderings h.events)) (map race_found part.races.items)) (sym same) between.races.races

pub add_deadlocks-requires-clause-few : goal.add_deadlocks-requires-clause-few
add_deadlocks-requires-clause-few c =
    let n = length c.loop-part.yielded in
    let parts = c.args.parts.items in
    let part = c.in-Some.part in
    let graph = c.args.classes.now in
    let listed = c.args.patterns.now in
    let borders = c.args.borders.now in
    let gives = c.into_iter-part-iterator.ensures.into_iter_gives in
    let turn = YieldsList-turn (YieldsList-from_vec {s = c.into_iter-part-iterator.result} parts gives.0 (gives.1 ∙ c.args.parts.ok.0)) c.loop-part.yielded c.loop-part.part-iterator c.loop-part.yielded_by c.next.result c.next.new.self part c.in-Some.is c.next.ensures.steps in
    let less : n < length parts = turn.0 in
    let all = c.requires.all in
    let at = borders_at borders n (omega arith) in
    let from = get_or borders n (border 0 0) in
    let to = get_or borders (n + 1) (border 0 0) in
    let between = (c.requires.parts n part (slice_get_read parts (length parts) n part refl turn.0 turn.1)).between from to at.0 at.1 in
    let few = few_more graph listed from to part c.loop-part.slots.items c.loop-part.found between (c.loop-part.invariant.joined from at.0) in
    let within = (c.requires.borders.rise.within (n + 1) to at.1).1 in
    let most = c.len.ensures.few in
    omega arith

pub loop-part-preserved : goal.loop-part-preserved
loop-part-preserved c =
    let n = length c.loop-part.yielded in
    let parts = c.args.parts.items in
    let part = c.in-Some.part in
    let graph = c.args.classes.now in
    let listed = c.args.patterns.now in
    let borders = c.args.borders.now in
    let gives = c.into_iter-part-iterator.ensures.into_iter_gives in
    let turn = YieldsList-turn (YieldsList-from_vec {s = c.into_iter-part-iterator.result} parts gives.0 (gives.1 ∙ c.args.parts.ok.0)) c.loop-part.yielded c.loop-part.part-iterator c.loop-part.yielded_by c.next.result c.next.new.self part c.in-Some.is c.next.ensures.steps in
    let less : n < length parts = turn.0 in
    let all = c.requires.all in
    let at = borders_at borders n (omega arith) in
    let from = get_or borders n (border 0 0) in
    let long : length (c.loop-part.yielded ++ part ∷ []) ≡ n + 1 = length-append c.loop-part.yielded (part ∷ []) in
    let same = c.trace-trace.ensures.value ∙ c.index.ensures in
    let filled = subst (λ (h : History). AreFilled h c.loop-part.slots.items (map race_found part.races.items) c.fill_slots.new.slots.items) same c.fill_slots.ensures in
    record {
      alone = c.add_deadlocks.ensures.races ∙ c.loop-part.invariant.alone;
      joined = λ to at_to.
          let next : slice_get borders (n + 1) ≡ Some to = subst (λ (k : ℕ). slice_get borders k ≡ Some to) long at_to in
          let between = (c.requires.parts n part (slice_get_read parts (length parts) n part refl turn.0 turn.1)).between from to at.0 next in
          joined_more graph listed from to part c.loop-part.slots.items c.fill_slots.new.slots.items c.loop-part.found c.add_deadlocks.new.found c.requires.ranked (c.requires.borders.rise.order n from to at.0 next) between
          (c.loop-part.invariant.joined from at.0) filled c.in_ok-add_deadlocks.ensures.deadlocks;
    }

pub add_races-requires-clause-variables : goal.add_races-requires-clause-variables
add_races-requires-clause-variables c = subst (λ (h : History). AreVariablesBelow h.events MAX_VARS) (sym c.trace-trace.ensures.value) c.trace-trace.ensures.variables

pub add_races-requires-clause-slots : goal.add_races-requires-clause-slots
add_races-requires-clause-slots c =
    let borders = c.args.borders.now in
    let parts = c.args.parts.items in
    let yielded = c.loop-part.yielded in
    let gives = c.into_iter-part-iterator.ensures.into_iter_gives in
    let end = YieldsList-end (YieldsList-from_vec {s = c.into_iter-part-iterator.result} parts gives.0 (gives.1 ∙ c.args.parts.ok.0)) yielded c.loop-part.part-iterator c.loop-part.yielded_by c.next.result c.next.new.self c.in-None.is c.next.ensures.steps in
    let long = end.1 in
    let all = c.requires.all in
    let here : length borders - 1 ≡ length yielded = omega arith in
    let last : Border = border MAX_VARS (length c.args.patterns.now) in
    let joined = c.loop-part.invariant.joined last (subst (λ (k : ℕ). slice_get borders k ≡ Some last) here c.requires.borders.end) in
    let same = c.trace-trace.ensures.value ∙ c.index.ensures in
    subst (λ (h : History). AreSlots h MAX_VARS c.loop-part.slots.items) (sym same) joined.races

pub add_races-requires-clause-few : goal.add_races-requires-clause-few
add_races-requires-clause-few c =
    let borders = c.args.borders.now in
    let parts = c.args.parts.items in
    let yielded = c.loop-part.yielded in
    let gives = c.into_iter-part-iterator.ensures.into_iter_gives in
    let end = YieldsList-end (YieldsList-from_vec {s = c.into_iter-part-iterator.result} parts gives.0 (gives.1 ∙ c.args.parts.ok.0)) yielded c.loop-part.part-iterator c.loop-part.yielded_by c.next.result c.next.new.self c.in-None.is c.next.ensures.steps in
    let long = end.1 in
    let all = c.requires.all in
    let here : length borders - 1 ≡ length yielded = omega arith in
    let last : Border = border MAX_VARS (length c.args.patterns.now) in
    let joined = c.loop-part.invariant.joined last (subst (λ (k : ℕ). slice_get borders k ≡ Some last) here c.requires.borders.end) in
    let few = joined.deadlocks.few in
    let most = c.len.ensures.few in
    omega arith

pub returns-clause-deadlocks : goal.returns-clause-deadlocks
returns-clause-deadlocks c =
    let borders = c.args.borders.now in
    let parts = c.args.parts.items in
    let yielded = c.loop-part.yielded in
    let gives = c.into_iter-part-iterator.ensures.into_iter_gives in
    let end = YieldsList-end (YieldsList-from_vec {s = c.into_iter-part-iterator.result} parts gives.0 (gives.1 ∙ c.args.parts.ok.0)) yielded c.loop-part.part-iterator c.loop-part.yielded_by c.next.result c.next.new.self c.in-None.is c.next.ensures.steps in
    let long = end.1 in
    let all = c.requires.all in
    let here : length borders - 1 ≡ length yielded = omega arith in
    let last : Border = border MAX_VARS (length c.args.patterns.now) in
    let joined = c.loop-part.invariant.joined last (subst (λ (k : ℕ). slice_get borders k ≡ Some last) here c.requires.borders.end) in
    let graph = c.args.classes.now in
    subst (AreDeadlocks graph.trace (map (classes_of graph.classes) c.args.patterns.now) 0 (length c.args.patterns.now)) (sym c.in_ok-add_races.ensures.deadlocks) joined.deadlocks
