use Rattle.std.proofs.Common.{◌≡◌, length, get_or, slice_set, Some, refl, sym, ap, ◌∙◌, subst, arith}
use Rattle.std.specs.Vec.{with_items}
use Rattle.std.proofs.lemmas.List.{with_items_is}
use Rattle.trace_laws.specs.Event.{Event}
use Rattle.script_machine.specs.Machine.{next_call, stored_at}
use Rattle.script_machine.specs.Held.{Held, IsTaken, IsVariableIn, meaning, forked_list, owners_list, values_list, brought_list}
use Rattle.script_machine.specs.HeldBy.{held}
use Rattle.script_machine.proofs.TakenLemmas.{call_here, some_left, variable_in, operand_in, taken_from, whole_after}
use Rattle.script_machine.proofs.machine.Machine.take.Goals as goal

pub location-loc-requires : goal.location-loc-requires
location-loc-requires c =
    let m : Held = held c.self.inside in
    let bodies : length m.script.bodies ≡ length c.args.self.now.script.bodies = ap (λ s. length s.script.bodies) c.self.view_is in
    let call : next_call m.script (meaning m) c.args.thread ≡ Some c.args.op = subst (λ x. next_call x.script (meaning x) c.args.thread ≡ Some c.args.op) (sym c.self.view_is) c.requires.call in
    let read = c.index_mut-run.ensures.value ∙ ap (λ t. get_or c.self.inside.runs.items t c.index_mut-run.result.now) c.value.ensures.value in
    let here = call_here m c.args.thread c.args.op c.index_mut-run.result.now c.self.invariant (omega (arith, bodies, c.requires.thread_in)) call read in
    some_left c.index_mut-run.result.now.left c.args.op here

pub bring-brought-requires : goal.bring-brought-requires
bring-brought-requires c =
    let m : Held = held c.self.inside in
    let bodies : length m.script.bodies ≡ length c.args.self.now.script.bodies = ap (λ s. length s.script.bodies) c.self.view_is in
    let call : next_call m.script (meaning m) c.args.thread ≡ Some c.args.op = subst (λ x. next_call x.script (meaning x) c.args.thread ≡ Some c.args.op) (sym c.self.view_is) c.requires.call in
    let read = c.index_mut-run.ensures.value ∙ ap (λ t. get_or c.self.inside.runs.items t c.index_mut-run.result.now) c.value.ensures.value in
    let here = call_here m c.args.thread c.args.op c.index_mut-run.result.now c.self.invariant (omega (arith, bodies, c.requires.thread_in)) call read in
    let operand = operand_in m c.args.thread c.args.op c.self.invariant (omega (arith, bodies, c.requires.thread_in)) call in
    record {
      call = here;
      operand = subst (λ xs. IsVariableIn c.args.op (length xs)) (sym c.as_slice.ensures.value) (variable_in c.args.op _ _ _ operand);
    }

pub apply-requires : goal.apply-requires
apply-requires c =
    let m : Held = held c.self.inside in
    let bodies : length m.script.bodies ≡ length c.args.self.now.script.bodies = ap (λ s. length s.script.bodies) c.self.view_is in
    let call : next_call m.script (meaning m) c.args.thread ≡ Some c.args.op = subst (λ x. next_call x.script (meaning x) c.args.thread ≡ Some c.args.op) (sym c.self.view_is) c.requires.call in
    rw (c.as_mut_slice.ensures.value, c.as_mut_slice-2.ensures.value, c.as_mut_slice-3.ensures.value)
    (operand_in m c.args.thread c.args.op c.self.invariant (omega (arith, bodies, c.requires.thread_in)) call)

pub advance-requires : goal.advance-requires
advance-requires c =
    let m : Held = held c.self.inside in
    let bodies : length m.script.bodies ≡ length c.args.self.now.script.bodies = ap (λ s. length s.script.bodies) c.self.view_is in
    let call : next_call m.script (meaning m) c.args.thread ≡ Some c.args.op = subst (λ x. next_call x.script (meaning x) c.args.thread ≡ Some c.args.op) (sym c.self.view_is) c.requires.call in
    let read = c.index_mut-run.ensures.value ∙ ap (λ t. get_or c.self.inside.runs.items t c.index_mut-run.result.now) c.value.ensures.value in
    let here = call_here m c.args.thread c.args.op c.index_mut-run.result.now c.self.invariant (omega (arith, bodies, c.requires.thread_in)) call read in
    some_left c.index_mut-run.result.now.left c.args.op here

pub invariant_of-self : goal.invariant_of-self
invariant_of-self c =
    let m : Held = held c.self.inside in
    let m' : Held = record {
      script = c.self.inside.script.now;
      threads = slice_set c.self.inside.runs.items c.value.result c.advance.new.self;
      forked = (with_items c.self.inside.forked c.apply.new.forked).items;
      owners = (with_items c.self.inside.owners c.apply.new.owners).items;
      values = (with_items c.self.inside.values c.apply.new.values).items;
    } in
    let event : Event = record { thread = c.args.thread; op = c.args.op; loc = c.location-loc.result } in
    let bodies : length m.script.bodies ≡ length c.args.self.now.script.bodies = ap (λ s. length s.script.bodies) c.self.view_is in
    let call : next_call m.script (meaning m) c.args.thread ≡ Some c.args.op = subst (λ x. next_call x.script (meaning x) c.args.thread ≡ Some c.args.op) (sym c.self.view_is) c.requires.call in
    let read = c.index_mut-run.ensures.value ∙ ap (λ t. get_or c.self.inside.runs.items t c.index_mut-run.result.now) c.value.ensures.value in
    let brings = c.bring-brought.ensures ∙ ap (λ xs. brought_list c.args.op (stored_at c.index_mut-run.result.now.left c.index_mut-run.result.now.register) xs) c.as_slice.ensures.value in
    let taken : IsTaken m m' event = taken_from m m' event c.bring-brought.result c.index_mut-run.result.now c.advance.new.self
    c.self.invariant (omega (arith, bodies, c.requires.thread_in)) call read c.location-loc.ensures c.advance.ensures brings
    (ap (λ t. slice_set c.self.inside.runs.items t c.advance.new.self) c.value.ensures.value)
    (with_items_is c.self.inside.forked c.apply.new.forked (c.apply.auto.forked ∙ c.as_mut_slice.ensures.len) ∙ c.apply.ensures.forks_made ∙ ap (λ xs. forked_list c.args.op xs) c.as_mut_slice.ensures.value)
    (with_items_is c.self.inside.owners c.apply.new.owners (c.apply.auto.owners ∙ c.as_mut_slice-2.ensures.len) ∙ c.apply.ensures.owners_made ∙ ap (λ xs. owners_list c.args.op c.args.thread xs) c.as_mut_slice-2.ensures.value)
    (with_items_is c.self.inside.values c.apply.new.values (c.apply.auto.values ∙ c.as_mut_slice-3.ensures.len) ∙ c.apply.ensures.values_made ∙ ap (λ xs. values_list c.args.op c.bring-brought.result xs) c.as_mut_slice-3.ensures.value) in
    whole_after m m' event c.self.invariant refl taken

pub returns-clause-taken : goal.returns-clause-taken
returns-clause-taken c =
    let m : Held = held c.self.inside in
    let m' : Held = record {
      script = c.self.inside.script.now;
      threads = slice_set c.self.inside.runs.items c.value.result c.advance.new.self;
      forked = (with_items c.self.inside.forked c.apply.new.forked).items;
      owners = (with_items c.self.inside.owners c.apply.new.owners).items;
      values = (with_items c.self.inside.values c.apply.new.values).items;
    } in
    let event : Event = record { thread = c.args.thread; op = c.args.op; loc = c.location-loc.result } in
    let bodies : length m.script.bodies ≡ length c.args.self.now.script.bodies = ap (λ s. length s.script.bodies) c.self.view_is in
    let call : next_call m.script (meaning m) c.args.thread ≡ Some c.args.op = subst (λ x. next_call x.script (meaning x) c.args.thread ≡ Some c.args.op) (sym c.self.view_is) c.requires.call in
    let read = c.index_mut-run.ensures.value ∙ ap (λ t. get_or c.self.inside.runs.items t c.index_mut-run.result.now) c.value.ensures.value in
    let brings = c.bring-brought.ensures ∙ ap (λ xs. brought_list c.args.op (stored_at c.index_mut-run.result.now.left c.index_mut-run.result.now.register) xs) c.as_slice.ensures.value in
    let taken : IsTaken m m' event = taken_from m m' event c.bring-brought.result c.index_mut-run.result.now c.advance.new.self
    c.self.invariant (omega (arith, bodies, c.requires.thread_in)) call read c.location-loc.ensures c.advance.ensures brings
    (ap (λ t. slice_set c.self.inside.runs.items t c.advance.new.self) c.value.ensures.value)
    (with_items_is c.self.inside.forked c.apply.new.forked (c.apply.auto.forked ∙ c.as_mut_slice.ensures.len) ∙ c.apply.ensures.forks_made ∙ ap (λ xs. forked_list c.args.op xs) c.as_mut_slice.ensures.value)
    (with_items_is c.self.inside.owners c.apply.new.owners (c.apply.auto.owners ∙ c.as_mut_slice-2.ensures.len) ∙ c.apply.ensures.owners_made ∙ ap (λ xs. owners_list c.args.op c.args.thread xs) c.as_mut_slice-2.ensures.value)
    (with_items_is c.self.inside.values c.apply.new.values (c.apply.auto.values ∙ c.as_mut_slice-3.ensures.len) ∙ c.apply.ensures.values_made ∙ ap (λ xs. values_list c.args.op c.bring-brought.result xs) c.as_mut_slice-3.ensures.value) in
    subst (λ x. IsTaken x m' event) c.self.view_is taken
