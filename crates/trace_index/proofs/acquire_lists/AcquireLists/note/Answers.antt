use Rattle.std.proofs.Common.{◌≡◌, ℕ, ◌-◌, Some, sym, ap, subst, ◌∙◌, arith}
use Rattle.std.specs.Prelude.{slice_get}
use Rattle.std.proofs.lemmas.Option.{slice_get-get_or}
use Rattle.trace_laws.specs.Event.{Event}
use Rattle.trace_laws.specs.declared.event.Op.TheVariants.{Acquire}
use Rattle.trace_laws.specs.Trace.{op_at, Acquires}
use Rattle.trace_laws.proofs.Places.{op_from_event, thread_from_event}
use Rattle.trace_index.specs.Acquired.{pair_of}
use Rattle.trace_index.specs.Listed.{IsAddedTo}
use Rattle.trace_index.proofs.Positions.{added_within}
use Rattle.trace_index.proofs.Acquiring.{acquires_past, acquires_next, positions_past, positions_next, few_acquires}
use Rattle.trace_index.proofs.acquire_lists.AcquireLists.note.Goals as goal

-- a place that is no acquire
none : (c : goal.In_default) → (l : ℕ) → op_at c.args.trace.now.events c.args.place ≡ Some (Acquire l) → ⊥
none c = λ l acquires.
    let events = c.args.trace.now.events in
    let op = op_from_event events c.args.place c.event-event.result c.event-event.ensures in
    let view = ap (λ (e : Event). e.op) c.event.view_is in
    c.in_default.not-Acquire l (view ∙ (let same : c.event-event.result.op ≡ Acquire l = cc in same))

pub returns-in_default-clause-noted : goal.returns-in_default-clause-noted
returns-in_default-clause-noted c = acquires_past c.args.trace.now.events c.args.trace.now.threads c.args.place c.args.self.now.lists.items (none c) c.requires.noted

pub returns-in_default-clause-positions : goal.returns-in_default-clause-positions
returns-in_default-clause-positions c = positions_past c.args.trace.now.events c.args.trace.now.threads c.args.place c.args.self.now.lists.items c.args.self.now.positions.items (none c) c.requires.positions

pub overflow_cast-len : goal.overflow_cast-len
overflow_cast-len c =
    let events = c.args.trace.now.events in
    let threads = c.args.trace.now.threads in
    let place = c.args.place in
    let lock = c.in-Acquire.lock in
    let thread = c.event-event.result.thread in
    let old = c.args.self.now.lists.items in
    let new = c.add.new.lists.items in
    let acquires : Acquires events place thread lock = record {
      thread = thread_from_event events place c.event-event.result c.event-event.ensures;
      op = op_from_event events place c.event-event.result c.event-event.ensures ∙ ap Some (sym (ap (λ (e : Event). e.op) c.event.view_is) ∙ c.in-Acquire.is);
    } in
    let number : c.pair-number.result ≡ pair_of threads lock thread = c.pair-number.ensures.value ∙ ap (λ (e : Event). pair_of c.threads.result lock e.thread) c.event.view_is ∙ ap (λ (n : ℕ). pair_of n lock thread) c.threads.ensures in
    let added : IsAddedTo old (pair_of threads lock thread) place new = subst (λ (n : ℕ). IsAddedTo old n place new) number c.in_ok-add.ensures in
    let v = c.index.result.now in
    let at : slice_get new (pair_of threads lock thread) ≡ Some v = subst (λ (n : ℕ). slice_get new n ≡ Some v) number (slice_get-get_or new c.pair-number.result v (added_within old c.pair-number.result place new c.in_ok-add.ensures) ∙ ap Some (sym c.index.ensures)) in
    let few = few_acquires events threads place lock thread old new v (c.len.ensures.trace.named place c.event-event.result c.event-event.ensures).0 acquires added at c.requires.noted in
    let size = c.len-2.ensures in
    let fits = c.ranges.place.fits in
    omega arith

pub returns-clause-noted : goal.returns-clause-noted
returns-clause-noted c =
    let events = c.args.trace.now.events in
    let threads = c.args.trace.now.threads in
    let place = c.args.place in
    let lock = c.in-Acquire.lock in
    let thread = c.event-event.result.thread in
    let old = c.args.self.now.lists.items in
    let new = c.add.new.lists.items in
    let acquires : Acquires events place thread lock = record {
      thread = thread_from_event events place c.event-event.result c.event-event.ensures;
      op = op_from_event events place c.event-event.result c.event-event.ensures ∙ ap Some (sym (ap (λ (e : Event). e.op) c.event.view_is) ∙ c.in-Acquire.is);
    } in
    let number : c.pair-number.result ≡ pair_of threads lock thread = c.pair-number.ensures.value ∙ ap (λ (e : Event). pair_of c.threads.result lock e.thread) c.event.view_is ∙ ap (λ (n : ℕ). pair_of n lock thread) c.threads.ensures in
    let added : IsAddedTo old (pair_of threads lock thread) place new = subst (λ (n : ℕ). IsAddedTo old n place new) number c.in_ok-add.ensures in
    acquires_next events threads place lock thread old new (c.len.ensures.trace.named place c.event-event.result c.event-event.ensures).0 acquires added c.requires.noted

pub returns-clause-positions : goal.returns-clause-positions
returns-clause-positions c =
    let events = c.args.trace.now.events in
    let threads = c.args.trace.now.threads in
    let place = c.args.place in
    let lock = c.in-Acquire.lock in
    let thread = c.event-event.result.thread in
    let old = c.args.self.now.lists.items in
    let new = c.add.new.lists.items in
    let acquires : Acquires events place thread lock = record {
      thread = thread_from_event events place c.event-event.result c.event-event.ensures;
      op = op_from_event events place c.event-event.result c.event-event.ensures ∙ ap Some (sym (ap (λ (e : Event). e.op) c.event.view_is) ∙ c.in-Acquire.is);
    } in
    let number : c.pair-number.result ≡ pair_of threads lock thread = c.pair-number.ensures.value ∙ ap (λ (e : Event). pair_of c.threads.result lock e.thread) c.event.view_is ∙ ap (λ (n : ℕ). pair_of n lock thread) c.threads.ensures in
    let added : IsAddedTo old (pair_of threads lock thread) place new = subst (λ (n : ℕ). IsAddedTo old n place new) number c.in_ok-add.ensures in
    let v = c.index.result.now in
    let at : slice_get new (pair_of threads lock thread) ≡ Some v = subst (λ (n : ℕ). slice_get new n ≡ Some v) number (slice_get-get_or new c.pair-number.result v (added_within old c.pair-number.result place new c.in_ok-add.ensures) ∙ ap Some (sym c.index.ensures)) in
    positions_next events threads place lock thread (c.len-2.result - 1) old new c.args.self.now.positions.items v c.requires.place acquires added at (let size = c.len-2.ensures in omega arith) c.requires.positions
