use Rattle.std.proofs.Common.{◌≡◌, Some, slice_get, sym, ap, ◌∙◌, arith}
use Rattle.std.proofs.lemmas.Option.{slice_get-get_or}
use Rattle.trace_laws.specs.Event.{Event}
use Rattle.trace_laws.specs.Trace.{thread_at}
use Rattle.trace_laws.proofs.Places.{thread_from_event}
use Rattle.replayer.proofs.Keeping.{kept_past, kept_next, all_kept, all_kept_early, one_less}
use Rattle.replayer.proofs.Leading.{kept_follow}
use Rattle.replayer.proofs.kept.reorder.Goals as goal
use Rattle.replayer.proofs.kept.reorder.Goals.{then-is_kept+in-Ok, else-is_kept}

pub index-count-requires : goal.index-count-requires
index-count-requires c =
    let less = (c.len-end.ensures.trace.named c.loop-place.place c.event.result c.event.ensures).0 in
    let own : c.value-thread.result ≡ c.event.result.thread = c.value-thread.ensures.value ∙ ap (λ (e : Event). e.thread) c.event-in-loop-place.view_is in
    let size = c.loop-place.invariant.kept.size in
    let counts = c.requires in
    omega arith

pub index_mut-requires : goal.index_mut-requires
index_mut-requires c =
    let less = (c.len-end.ensures.trace.named c.loop-place.place c.event.result c.event.ensures).0 in
    let own : c.value-thread.result ≡ c.event.result.thread = c.value-thread.ensures.value ∙ ap (λ (e : Event). e.thread) c.event-in-loop-place.view_is in
    let size = c.loop-place.invariant.kept.size in
    let counts = c.requires in
    omega arith

pub loop-place-preserved : goal.loop-place-preserved
loop-place-preserved c =
    let trace = c.args.trace.now.events in
    let keep = c.args.keep.now in
    let at = c.loop-place in
    let t = c.value-thread.result in
    let k = c.index-count.result.now in
    let thread : c.value-thread.result ≡ c.event.result.thread = c.value-thread.ensures.value ∙ ap (λ (e : Event). e.thread) c.event-in-loop-place.view_is in
    let own : thread_at trace at.place ≡ Some t = thread_from_event trace at.place c.event.result c.event.ensures ∙ ap Some (sym thread) in
    let less = (c.len-end.ensures.trace.named at.place c.event.result c.event.ensures).0 in
    let size = at.invariant.kept.size in
    let counts = c.requires in
    let read : slice_get at.left.items t ≡ Some k = slice_get-get_or at.left.items t k (omega arith) ∙ ap Some (sym c.index-count.ensures) in
    elim c.if-is_kept.branch [
      | then-is_kept+in-Ok w ↦ record {
        kept = rw (w.left-is, w.places-is, w.in-Ok.ensures.items) (kept_next trace keep at.place t own at.left.items at.places.items k read at.invariant.kept w.if-is_kept.true);
        rest = rw (w.left-is, w.rest-is) (one_less at.left.items t k at.rest read w.if-is_kept.true at.invariant.rest);
      }
      | else-is_kept w ↦ record {
        kept = rw (w.left-is, w.places-is) (kept_past trace keep at.place t own at.left.items at.places.items k read at.invariant.kept (let none = w.if-is_kept.false in omega arith));
        rest = rw (w.left-is, w.rest-is) at.invariant.rest;
      }
    ]

pub returns-clause-kept : goal.returns-clause-kept
returns-clause-kept c =
    let end = c.len-end.ensures.value in
    let past = c.loop-place-test.false in
    all_kept c.args.trace.now.events c.args.keep.now c.loop-place.place c.loop-place.left.items c.loop-place.places.items (omega arith) c.loop-place.invariant.kept

pub returns-clause-least : goal.returns-clause-least
returns-clause-least c =
    let end = c.len-end.ensures.value in
    let past = c.loop-place-test.false in
    kept_follow c.args.trace.now c.len-end.ensures.trace c.args.keep.now c.loop-place.places.items
    (all_kept c.args.trace.now.events c.args.keep.now c.loop-place.place c.loop-place.left.items c.loop-place.places.items (omega arith) c.loop-place.invariant.kept)

pub returns-then-rest-eq0-clause-kept : goal.returns-then-rest-eq0-clause-kept
returns-then-rest-eq0-clause-kept c =
    let at = c.loop-place in
    all_kept_early c.args.trace.now.events c.args.keep.now at.place at.left.items at.places.items (sym at.invariant.rest ∙ c.if-rest-eq0.true) at.invariant.kept

pub returns-then-rest-eq0-clause-least : goal.returns-then-rest-eq0-clause-least
returns-then-rest-eq0-clause-least c =
    let at = c.loop-place in
    kept_follow c.args.trace.now c.len-end.ensures.trace c.args.keep.now at.places.items
    (all_kept_early c.args.trace.now.events c.args.keep.now at.place at.left.items at.places.items (sym at.invariant.rest ∙ c.if-rest-eq0.true) at.invariant.kept)
