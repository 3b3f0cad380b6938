-- A lock that a thread holds before an enabled place is held by it after the places of a correct reordering.
use Rattle.std.proofs.Common.{◌≡◌, ℕ, zero, suc, ◌+◌, ◌-◌, ◌<◌, ◌≤◌, inl, inr, List, [], ◌∷◌, ◌++◌, nat_eq, slice_get, length, take, drop, Contains, Some, None, refl, sym, ap, ◌∙◌, subst, eqb-true, eq-eqb, add-zero, add-suc, take-append-drop, arith}
use Rattle.std.proofs.lemmas.Bool.{cases_Bool, cases_order}
use Rattle.std.proofs.lemmas.List.{take_all, take-take}
use Rattle.std.proofs.lemmas.List.Elements.{Contains-append_left}
use Rattle.trace_laws.specs.declared.event.Op.{Op}
use Rattle.trace_laws.specs.declared.event.Op.TheVariants.{Acquire, Release}
use Rattle.trace_laws.specs.Event.{Event}
use Rattle.trace_laws.specs.Trace.{Holds}
use Rattle.trace_laws.proofs.Places.{contains_at, op_from_event, thread_from_event, mapped_from}
use Rattle.script_machine.specs.Machine.{Taken, events}
use Rattle.script_machine.proofs.Steps.{get_in, holder_after}
use Rattle.replayer.specs.Replays.{along}
use Rattle.replayer.proofs.Along.{holder, LockLaw, Follows, Reordering, holder_push}
use Rattle.replayer.proofs.Replaying.{Same}
use Rattle.replayer.proofs.Ordering.{index_of, take_snoc}

module _ (run : List Taken) (places : List ℕ) (order : Reordering (events run) places) where
  -- the events of the run
  abbrev trace : List Event
  trace = events run

  -- each place follows those before it
  follows_at : (k r : ℕ) → slice_get places k ≡ Some r → Follows trace (take k places) r
  follows_at k r at_r = order (take k places) r (drop (suc k) places) (split places k r at_r)
    where
      split : (xs : List ℕ) (k r : ℕ) → slice_get xs k ≡ Some r → xs ≡ take k xs ++ r ∷ drop (suc k) xs
      split [] k r h = absurd (cc)
      split (x ∷ xs) zero r h = let same : x ≡ r = cc in ap (λ y. y ∷ xs) same
      split (x ∷ xs) (suc k) r h = ap (λ ys. x ∷ ys) (split xs k r h)

  -- who holds the lock after one more place
  holder_next : (n r l : ℕ) (e : Event) → slice_get places n ≡ Some r → slice_get trace r ≡ Some e
      → holder l (along trace (take (suc n) places)) ≡ holder_after l (holder l (along trace (take n places))) e.thread e.op
  holder_next n r l e at_r here = ap (λ xs. holder l (along trace xs)) (take_snoc places n r at_r) ∙ holder_push trace (take n places) r e l here

  module _ (q t l : ℕ) (holds : Holds trace ◌<◌ q t l) (own : Same run t places q) (a : ℕ) (at_a : slice_get places a ≡ Some holds.since)
      (e : Event) (here : slice_get trace holds.since ≡ Some e) (of : e.thread ≡ t) (op : e.op ≡ Acquire l) where
    -- the front of a front
    front : (k : ℕ) → take a places ++ drop a (take (suc a + k) places) ≡ take (suc a + k) places
    front k = ap (λ xs. xs ++ drop a (take (suc a + k) places)) (sym (take-take a (suc a + k) places (omega arith))) ∙ take-append-drop a (take (suc a + k) places)

    -- no place behind the acquire takes the lock away
    stays : (k r : ℕ) (x : Event) → slice_get trace r ≡ Some x → Contains places r → (Contains (take (suc a + k) places) r → ⊥)
        → (o : Op) → x.op ≡ o → LockLaw (along trace (take (suc a + k) places)) x.thread o → holder l (along trace (take (suc a + k) places)) ≡ Some t
        → holder_after l (holder l (along trace (take (suc a + k) places))) x.thread o ≡ Some t
    stays k r x at_x inside once (Acquire m) is law before = elim (cases_Bool (nat_eq m l)) [
      | inl y ↦ absurd (let same : m ≡ l = eqb-true m l y in let free = rw same at law in let no' : None ≡ Some t = sym free ∙ before in cc)
      | inr y ↦ rw y before
    ]
    stays k r x at_x inside once (Release m) is law before = elim (cases_Bool (nat_eq m l)) [
      | inl y ↦ absurd (
          let same : m ≡ l = eqb-true m l y in
          let mine = rw same at law in
          let by' : x.thread ≡ t = (let both : Some x.thread ≡ Some t = sym mine ∙ before in cc) in
          let low : r < q = own.below r x at_x by' inside in
          elim (cases_order r holds.since) [
            | inl equal ↦ (let there = rw equal at at_x in let both : x ≡ e = cc in let no' : Release m ≡ Acquire l = sym is ∙ ap (λ z. z.op) both ∙ op in cc)
            | inr (inl first) ↦
                (let g = follows_at a holds.since at_a in
                let early = g.after r (record { less = first; first = x; second = e; at_first = at_x; at_second = here; order = inl (by' ∙ sym of) }) in
                once (subst (λ xs. Contains xs r) (front k) (Contains-append_left (take a places) _ r early)))
            | inr (inr later) ↦ holds.kept r (record { thread = thread_from_event trace r x at_x ∙ ap Some by'; op = op_from_event trace r x at_x ∙ ap Some (is ∙ ap Release same) }) later low
          ])
      | inr y ↦ rw y before
    ]
    stays k r x at_x inside once other is law before = before

    -- so the thread holds it after each front that has the acquire
    climb : (k : ℕ) → suc a + k ≤ length places → holder l (along trace (take (suc a + k) places)) ≡ Some t
    climb zero high = rw add-zero (holder_next a holds.since l e at_a here ∙ (rw (op, of, eq-eqb l l refl) refl))
    climb (suc k) high =
        let (r, at_r) = get_in places (suc a + k) (let inside : suc a + k < length places = omega arith in inside) in
        let f = follows_at (suc a + k) r at_r in
        let before = climb k (omega arith) in
        rw add-suc (holder_next (suc a + k) r l f.event at_r f.here ∙ stays k r f.event f.here (contains_at places (suc a + k) r at_r) f.once f.event.op refl f.law before)

  -- and after all of them
  pub held_after : (q t l : ℕ) → Holds trace ◌<◌ q t l → Same run t places q → holder l (along trace places) ≡ Some t
  held_after q t l holds own =
      let (e, here, of) = mapped_from (λ (x : Event). x.thread) (slice_get trace holds.since) t holds.acquired.thread in
      let op : e.op ≡ Acquire l = (let a = holds.acquired.op in let b = op_from_event trace holds.since e here in cc) in
      let (a, less, at_a) = index_of places holds.since (own.above holds.since e here of holds.before) in
      let apart : suc a + (length places - suc a) ≡ length places = omega arith in
      let whole = rw apart at (climb q t l holds own a at_a e here of op (length places - suc a) (omega arith)) in
      subst (λ xs. holder l (along trace xs) ≡ Some t) (take_all (length places) places (omega arith)) whole
