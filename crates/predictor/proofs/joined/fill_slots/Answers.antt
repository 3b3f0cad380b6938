use Rattle.std.proofs.Common.{◌≡◌, ℕ, List, Some, [], ◌∷◌, length, map, refl, sym, subst, ◌∙◌, arith}
use Rattle.std.specs.Prelude.{slice_get, slice_set}
use Rattle.std.proofs.lemmas.Iterator.Consumers.{YieldsList-turn}
use Rattle.std.proofs.lemmas.Iterator.Adapters.{YieldsList-from_vec}
use Rattle.std.proofs.lemmas.List.{map-append}
use Rattle.std.proofs.lemmas.Option.{slice_get_read}
use Rattle.trace_laws.specs.Findings.{FoundRace}
use Rattle.trace_laws.specs.declared.finding.Race.{Race}
use Rattle.predictor.specs.Parts.{race_found, AreFilled}
use Rattle.predictor.proofs.Slotting.{later_within, race_at, filled_more}
use Rattle.predictor.proofs.joined.fill_slots.Goals as goal

pub index_mut-requires : goal.index_mut-requires
index_mut-requires c =
    let h = c.args.trace.now in
    let races = c.args.races.items in
    let yielded = c.loop-race.yielded in
    let r : Race × List ℕ = (c.in-Some.race, c.in-Some.keep) in
    let gives = c.into_iter-race-iterator.ensures.into_iter_gives in
    let turn = YieldsList-turn (YieldsList-from_vec {s = c.into_iter-race-iterator.result} races gives.0 (gives.1 ∙ c.args.races.ok.0)) yielded c.loop-race.race-iterator c.loop-race.yielded_by c.next.result c.next.new.self r c.in-Some.is c.next.ensures.steps in
    let at : slice_get races (length yielded) ≡ Some r = slice_get_read races (length races) (length yielded) r refl turn.0 turn.1 in
    let less = later_within h r (race_at h races (length yielded) r c.requires.races at) in
    let size = c.loop-race.invariant.size in
    let long = c.loop-race.slots.ok.0 in
    omega arith

pub loop-race-preserved-in-Some : goal.loop-race-preserved-in-Some
loop-race-preserved-in-Some c =
    let h = c.args.trace.now in
    let races = c.args.races.items in
    let slots = c.loop-race.slots.items in
    let yielded = c.loop-race.yielded in
    let r : Race × List ℕ = (c.in-Some.race, c.in-Some.keep) in
    let gives = c.into_iter-race-iterator.ensures.into_iter_gives in
    let turn = YieldsList-turn (YieldsList-from_vec {s = c.into_iter-race-iterator.result} races gives.0 (gives.1 ∙ c.args.races.ok.0)) yielded c.loop-race.race-iterator c.loop-race.yielded_by c.next.result c.next.new.self r c.in-Some.is c.next.ensures.steps in
    let at : slice_get races (length yielded) ≡ Some r = slice_get_read races (length races) (length yielded) r refl turn.0 turn.1 in
    subst (λ (fs : List FoundRace). AreFilled h c.args.slots.now.items fs (slice_set slots c.in-Some.race.later (Some r))) (sym (map-append race_found yielded (r ∷ [])))
    (filled_more h c.args.slots.now.items (map race_found yielded) slots r (race_at h races (length yielded) r c.requires.races at) c.loop-race.invariant)

pub loop-race-preserved : goal.loop-race-preserved
loop-race-preserved c =
    let h = c.args.trace.now in
    let races = c.args.races.items in
    let slots = c.loop-race.slots.items in
    let yielded = c.loop-race.yielded in
    let r : Race × List ℕ = (c.in-Some.race, c.in-Some.keep) in
    let gives = c.into_iter-race-iterator.ensures.into_iter_gives in
    let turn = YieldsList-turn (YieldsList-from_vec {s = c.into_iter-race-iterator.result} races gives.0 (gives.1 ∙ c.args.races.ok.0)) yielded c.loop-race.race-iterator c.loop-race.yielded_by c.next.result c.next.new.self r c.in-Some.is c.next.ensures.steps in
    let at : slice_get races (length yielded) ≡ Some r = slice_get_read races (length races) (length yielded) r refl turn.0 turn.1 in
    subst (λ (fs : List FoundRace). AreFilled h c.args.slots.now.items fs (slice_set slots c.in-Some.race.later (Some r))) (sym (map-append race_found yielded (r ∷ [])))
    (filled_more h c.args.slots.now.items (map race_found yielded) slots r (race_at h races (length yielded) r c.requires.races at) c.loop-race.invariant)
