use Rattle.std.proofs.Common.{◌≡◌, ◌+◌, ◌∷◌, ◌++◌, [], List, Some, true, false, length, slice_get, slice_set, refl, sym, ap, subst, ◌∙◌, arith}
use Rattle.std.proofs.lemmas.Option.{slice_get-get_or}
use Rattle.trace_laws.specs.Event.{Event}
use Rattle.trace_laws.specs.Traces.{History}
use Rattle.trace_laws.specs.declared.event.Op.TheVariants.{Acquire}
use Rattle.trace_laws.specs.Trace.{thread_at, op_at, Acquires}
use Rattle.trace_laws.proofs.Places.{thread_from_event}
use Rattle.trace_index.specs.HeldSets.{IsAcquire}
use Rattle.lock_graph.specs.declared.entry.Entry.{Entry}
use Rattle.lock_graph.specs.declared.entry.Key.{Key}
use Rattle.lock_graph.specs.Listing.{AreNoted}
use Rattle.lock_graph.proofs.Keys.{keys_stay, keys_grow, key_nowhere, key_there}
use Rattle.lock_graph.proofs.Noting.{noted_past, noted_joins, noted_new}
use Rattle.lock_graph.proofs.listing.Listing.note.Goals as goal

pub returns-in_default : goal.returns-in_default
returns-in_default c =
    let old = c.args.self.now in
    noted_past c.args.index.now.events c.args.place old.keys.keys old.entries.items c.requires.noted (subst (λ (h : History). IsAcquire h.events c.args.place → ⊥) c.trace.ensures.value c.in_default.ensures.none)

pub returns-then-not-new : goal.returns-then-not-new
returns-then-not-new c =
    let events = c.args.index.now.events in
    let place = c.args.place in
    let keys = c.args.self.now.keys.keys in
    let entries = c.args.self.now.entries.items in
    let key : Key = record { thread = c.thread.inside.thread; lock = c.in-Some.lock; alike = c.first_alike-alike.result } in
    let thread : thread_at events place ≡ Some key.thread = subst (λ (h : History). thread_at h.events place ≡ Some key.thread) c.trace-2.ensures.value (thread_from_event c.trace-2.result.now.events place c.event.result c.event.ensures ∙ ap Some (sym (ap (λ (e : Event). e.thread) c.thread.view_is))) in
    let op : op_at events place ≡ Some (Acquire key.lock) = subst (λ (h : History). op_at h.events place ≡ Some (Acquire key.lock)) c.trace.ensures.value c.in-Some.ensures.some in
    let acquires : Acquires events place key.thread key.lock = record { thread = thread; op = op } in
    let more = c.insert_full.new.self.keys in
    let old : c.in-Ok.new ≡ false = c.if-not-new.true in
    let stay : more ≡ keys = keys_stay keys more key c.in-Ok.new c.in-Ok.ensures.added c.in-Ok.ensures.keys old in
    let i = c.in-Ok.class in
    let e = c.index_mut.result.now in
    let inside = c.in-Ok.ensures.within in
    let size = ap length stay in
    let known = c.requires.noted.known in
    let at_e : slice_get entries i ≡ Some e = slice_get-get_or entries i e (omega arith) ∙ ap Some (sym c.index_mut.ensures.value) in
    let stored = c.in-Ok.ensures.stored in
    let at_k : slice_get keys i ≡ Some key = subst (λ (ks : List Key). slice_get ks i ≡ Some key) stay (key_there keys more key c.in-Ok.new c.in-Ok.ensures.added c.in-Ok.ensures.keys i stored.0 stored.1 stored.2) in
    let f : Entry = record { thread = e.thread; lock = e.lock; held = e.held; acquires = c.push.new.self } in
    subst (λ (ks : List Key). AreNoted events (place + 1) ks (slice_set entries i f)) (sym stay)
    (noted_joins events place keys entries c.requires.noted key acquires c.first_alike-alike.ensures i e f at_e at_k refl refl refl c.in-Ok-push.ensures.items)

pub returns : goal.returns
returns c =
    let events = c.args.index.now.events in
    let place = c.args.place in
    let keys = c.args.self.now.keys.keys in
    let entries = c.args.self.now.entries.items in
    let key : Key = record { thread = c.thread.inside.thread; lock = c.in-Some.lock; alike = c.first_alike-alike.result } in
    let thread : thread_at events place ≡ Some key.thread = subst (λ (h : History). thread_at h.events place ≡ Some key.thread) c.trace-2.ensures.value (thread_from_event c.trace-2.result.now.events place c.event.result c.event.ensures ∙ ap Some (sym (ap (λ (e : Event). e.thread) c.thread.view_is))) in
    let op : op_at events place ≡ Some (Acquire key.lock) = subst (λ (h : History). op_at h.events place ≡ Some (Acquire key.lock)) c.trace.ensures.value c.in-Some.ensures.some in
    let acquires : Acquires events place key.thread key.lock = record { thread = thread; op = op } in
    let more = c.insert_full.new.self.keys in
    let new : c.in-Ok.new ≡ true = c.if-not-new.false in
    let grow : more ≡ keys ++ key ∷ [] = keys_grow keys more key c.in-Ok.new c.in-Ok.ensures.added c.in-Ok.ensures.keys new in
    let f : Entry = record { thread = c.thread.inside.thread; lock = c.in-Some.lock; held = c.held.result; acquires = c.in-Ok-vec.acquires } in
    let alone : f.acquires.items ≡ place ∷ [] = c.in-Ok-vec.ensures.items in
    let noted : AreNoted events (place + 1) (keys ++ key ∷ []) (entries ++ f ∷ []) = noted_new events place keys entries c.requires.noted key acquires c.first_alike-alike.ensures (key_nowhere keys more key c.in-Ok.new c.in-Ok.ensures.added c.in-Ok.ensures.keys new) f refl refl c.held.ensures alone in
    subst (λ (es : List Entry). AreNoted events (place + 1) more es) (sym c.in-Ok-push-2.ensures.items) (subst (λ (ks : List Key). AreNoted events (place + 1) ks (entries ++ f ∷ [])) (sym grow) noted)
