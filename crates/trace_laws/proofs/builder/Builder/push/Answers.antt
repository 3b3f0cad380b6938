use Rattle.std.proofs.Common.{◌≡◌, ◌<◌, ◌≤◌, ℕ, ◌∙◌, slice_set, Bool, List, Option, ◌++◌, ◌∷◌, [], length, refl, arith, sym, ap, subst, length-append, true}
use Rattle.std.specs.Prelude.{vec_capacity, is_ok}
use Rattle.trace_laws.specs.Trace.{Lawful, MayFollow}
use Rattle.trace_laws.specs.Event.{Event}
use Rattle.trace_laws.specs.Faults.{Built, IsRefusedFor}
use Rattle.trace_laws.proofs.Refusals.{fault_clause, refused_from_op, refused_not_accepted}
use Rattle.std.proofs.lemmas.List.{with_items_is}
use Rattle.trace_laws.specs.Building.{owners_after, joined_after, forked_after}
use Rattle.trace_laws.proofs.Tables.{Tracks-same}
use Rattle.trace_laws.proofs.Growing.{Lawful-push}
use Rattle.trace_laws.proofs.GrowingTables.{Tracks-push}
use Rattle.trace_laws.proofs.builder.Builder.push.Goals as goal

pub returns-in-Some-clause-accepts : goal.returns-in-Some-clause-accepts
returns-in-Some-clause-accepts c =
    let b = c.args.self.now in (
      λ h. cc,
      λ accepted. absurd (refused_not_accepted b c.args.event c.in-Some.fault
          (refused_from_op b c.args.event c.in-Some.fault accepted.0 accepted.1.not_joined c.in-Some.ensures) accepted),
    )

pub returns-in-Some-clause-fault : goal.returns-in-Some-clause-fault
returns-in-Some-clause-fault c =
    let b = c.args.self.now in
    let lawful : Lawful b.events = rw (← c.self.view_is) c.self.invariant.lawful in
    let room : length b.events < b.capacity = rw (← c.self.view_is) (let within = c.self.invariant.within in omega arith) in
    let refused : IsRefusedFor b c.args.event c.in-Some.fault = refused_from_op b c.args.event c.in-Some.fault room (λ joined. let t = c.if-is_joined.ensures.1 (rw (ap (λ (e : Event). e.thread) c.event.view_is) joined) in cc) c.in-Some.ensures in
    fault_clause b lawful c.args.event c.in-Some.fault refused _ refl

pub returns-clause-fault : goal.returns-clause-fault
returns-clause-fault c = λ fault. (λ h. cc, λ refused. absurd (refused_not_accepted c.args.self.now c.args.event fault refused (room, laws)))
  where
    room : length c.args.self.now.events < c.args.self.now.capacity
    room = rw (← c.self.view_is) (let within = c.self.invariant.within in omega arith)

    laws : MayFollow c.args.self.now.events c.args.event
    laws = record { not_joined = λ joined. let t = c.if-is_joined.ensures.1 (rw (ap (λ (e : Event). e.thread) c.event.view_is) joined) in cc; locks = c.in_default.ensures.0; threads = c.in_default.ensures.1 }

pub invariant_of-self : goal.invariant_of-self
invariant_of-self c =
    let b = c.self.inside in
    let within = c.self.invariant.within in
    let room : length b.events.items < b.capacity = omega arith in
    let capacity : b.capacity ≤ vec_capacity b.events = c.self.invariant.room in
    let more : vec_capacity b.events ≤ vec_capacity c.push.new.self = c.push.ensures.capacity in
    let pushed : is_ok c.push.result ≡ true = c.push.ensures.succeeds (omega arith) in
    let items : c.push.new.self.items ≡ b.events.items ++ c.args.event ∷ [] = rw pushed at c.push.ensures.items in
    let laws : MayFollow c.args.self.now.events c.args.event =
    record { not_joined = λ joined. let t = c.if-is_joined.ensures.1 (rw (ap (λ (e : Event). e.thread) c.event.view_is) joined) in cc; locks = c.in_default.ensures.0; threads = c.in_default.ensures.1 } in
    let may_follow : MayFollow b.events.items c.args.event = subst (λ (x : Built). MayFollow x.events c.args.event) (sym c.self.view_is) laws in
    let tracks = c.self.invariant.tracks in
    record {
      lawful = rw items (Lawful-push b.events.items c.args.event c.self.invariant.lawful may_follow);
      within = rw items (omega (arith, length-append b.events.items (c.args.event ∷ [])));
      limit = c.self.invariant.limit;
      room = omega arith;
      tracks = Tracks-same _ _ _ _ _ _ _ _ _ _ items
          (with_items_is b.owners c.mark.new.owners (omega arith) ∙ c.mark.ensures.owners ∙ ap (λ (x : List (Option ℕ)). owners_after x c.args.event.thread c.args.event.op) c.deref_mut.ensures.value)
          (with_items_is b.joined c.mark.new.joined (omega arith) ∙ c.mark.ensures.joined ∙ ap (λ (x : List Bool). joined_after x c.args.event.op) c.deref_mut-2.ensures.value)
          (with_items_is b.forked c.mark.new.forked (omega arith) ∙ c.mark.ensures.forked ∙ ap (λ (x : List Bool). forked_after x c.args.event.op) c.deref_mut-3.ensures.value)
          (ap (λ (k : ℕ). slice_set b.started.items k true) (c.value.ensures.value ∙ ap (λ (e : Event). e.thread) c.event.view_is))
          (Tracks-push b.events.items c.args.event b.owners.items b.joined.items b.forked.items b.started.items c.self.invariant.lawful may_follow tracks);
    }
