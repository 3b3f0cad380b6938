use Rattle.std.proofs.Common.{◌≡◌, ℕ, ◌+◌, List, Some, [], ◌∷◌, ◌++◌, length, refl, sym, ap, subst, ◌∙◌, arith, length-append}
use Rattle.std.specs.Prelude.{slice_get}
use Rattle.std.proofs.lemmas.Iterator.Consumers.{YieldsList-turn, YieldsList-end}
use Rattle.std.proofs.lemmas.Iterator.Adapters.{YieldsList-from_vec}
use Rattle.std.proofs.lemmas.Option.{slice_get_read}
use Rattle.trace_laws.specs.declared.finding.Race.{Race}
use Rattle.predictor.specs.Parts.{race_found}
use Rattle.predictor.proofs.Scanning.{Scanned, races_from, slot_empty, slot_filled}
use Rattle.predictor.proofs.joined.add_races.Goals as goal

pub loop-slot-preserved-in_default : goal.loop-slot-preserved-in_default
loop-slot-preserved-in_default c =
    let events = c.args.trace.now.events in
    let threads = c.args.trace.now.threads in
    let slots = c.args.slots.items in
    let yielded = c.loop-slot.yielded in
    let found = c.loop-slot.found.races in
    let gives = c.into_iter-slot-iterator.ensures.into_iter_gives in
    let turn = YieldsList-turn (YieldsList-from_vec {s = c.into_iter-slot-iterator.result} slots gives.0 (gives.1 ∙ c.args.slots.ok.0)) yielded c.loop-slot.slot-iterator c.loop-slot.yielded_by c.next.result c.next.new.self c.in-Some.slot c.in-Some.is c.next.ensures.steps in
    let at : slice_get slots (length yielded) ≡ Some c.in-Some.slot = slice_get_read slots (length slots) (length yielded) c.in-Some.slot refl turn.0 turn.1 in
    let long : length (yielded ++ c.in-Some.slot ∷ []) ≡ length yielded + 1 = length-append yielded (c.in-Some.slot ∷ []) in
    record {
      few = let few = c.loop-slot.invariant.few in omega arith;
      deadlocks = c.loop-slot.invariant.deadlocks;
      scanned = subst (λ (n : ℕ). Scanned events threads n found) (sym long)
          (slot_empty c.args.trace.now slots (length yielded) found c.requires.variables c.requires.slots (at ∙ ap Some c.in_default.is) c.loop-slot.invariant.scanned);
    }

pub loop-slot-preserved : goal.loop-slot-preserved
loop-slot-preserved c =
    let events = c.args.trace.now.events in
    let threads = c.args.trace.now.threads in
    let slots = c.args.slots.items in
    let yielded = c.loop-slot.yielded in
    let found = c.loop-slot.found.races in
    let r : Race × List ℕ = (c.in-Some-slot.race, c.in-Some-slot.keep) in
    let gives = c.into_iter-slot-iterator.ensures.into_iter_gives in
    let turn = YieldsList-turn (YieldsList-from_vec {s = c.into_iter-slot-iterator.result} slots gives.0 (gives.1 ∙ c.args.slots.ok.0)) yielded c.loop-slot.slot-iterator c.loop-slot.yielded_by c.next.result c.next.new.self c.in-Some.slot c.in-Some.is c.next.ensures.steps in
    let at : slice_get slots (length yielded) ≡ Some c.in-Some.slot = slice_get_read slots (length slots) (length yielded) c.in-Some.slot refl turn.0 turn.1 in
    let long : length (yielded ++ c.in-Some.slot ∷ []) ≡ length yielded + 1 = length-append yielded (c.in-Some.slot ∷ []) in
    let added = c.in_ok-push.ensures.ok in
    let size : length c.push.new.self.races ≡ length found + 1 = ap length added.0 ∙ length-append found (race_found r ∷ []) in
    record {
      few = let few = c.loop-slot.invariant.few in omega arith;
      deadlocks = added.1 ∙ c.loop-slot.invariant.deadlocks;
      scanned = subst (Scanned events threads (length (yielded ++ c.in-Some.slot ∷ []))) (sym added.0) (subst (λ (n : ℕ). Scanned events threads n (found ++ race_found r ∷ [])) (sym long)
          (slot_filled c.args.trace.now slots (length yielded) found r c.requires.slots (at ∙ ap Some c.in-Some-slot.is) c.loop-slot.invariant.scanned));
    }

pub returns-clause-races : goal.returns-clause-races
returns-clause-races c =
    let slots = c.args.slots.items in
    let gives = c.into_iter-slot-iterator.ensures.into_iter_gives in
    let end = YieldsList-end (YieldsList-from_vec {s = c.into_iter-slot-iterator.result} slots gives.0 (gives.1 ∙ c.args.slots.ok.0)) c.loop-slot.yielded c.loop-slot.slot-iterator c.loop-slot.yielded_by c.next.result c.next.new.self c.in-None.is c.next.ensures.steps in
    let size = c.requires.slots.size in
    let few = c.loop-slot.invariant.few in
    let long = end.1 in
    races_from c.args.trace.now (length c.loop-slot.yielded) c.loop-slot.found.races (omega arith) (omega arith) c.loop-slot.invariant.scanned
