use Rattle.std.specs.Prelude.{sum_by, is_some}
use Rattle.std.proofs.Common.{◌≡◌, ◌<◌, Some, None, Result, Ok, Err, IsErr, IfOk, map, length, refl, sym, ap, ◌∙◌, subst, arith}
use Rattle.std.proofs.lemmas.List.{length-map}
use Rattle.std.proofs.lemmas.Result.{err_from_is_err_and}
use Rattle.sp_base.specs.declared.limits.TheConstants.{MAX_THREADS}
use Rattle.script_machine.specs.declared.fault.ScriptError.TheVariants as error
use Rattle.script_machine.specs.BodyAt.{IsSizeFault, AreBodies}
use Rattle.script_machine.specs.ForkTable.{table_of, second_fork, lines_for}
use Rattle.script_machine.proofs.Formed.{well_formed}
use Rattle.script_machine.proofs.OneFork.{forks_once}
use Rattle.script_machine.proofs.ForkLemmas.{table_tells}
use Rattle.script_machine.proofs.ReadText.{first_by_size, first_by_forks, script_right, all_fits}
use Rattle.script_machine.proofs.script.Script.read.Goals as goal

pub returns-in_err-steps-clause-fault : goal.returns-in_err-steps-clause-fault
returns-in_err-steps-clause-fault c =
    let p = err_from_is_err_and c.from_residual.result c.from_residual.ensures.1 in
    λ f is.
    (let gives = p.2 in
    let was = p.1 in
    let own : c.in_err-steps.field-0.0 ≡ error.Fault f = cc in
    c.in_err-steps.ensures.fault f (ap Err own))

pub returns-in_err-bodies-clause-fault : goal.returns-in_err-bodies-clause-fault
returns-in_err-bodies-clause-fault c =
    let p = err_from_is_err_and c.from_residual-in_err-bodies.result c.from_residual-in_err-bodies.ensures.1 in
    λ f is.
    (let gives = p.2 in
    let was = p.1 in
    let own : c.in_err-bodies.field-0.0 ≡ error.Fault f = cc in
    first_by_size c.args.text.now c.in_ok-steps.steps.items c.in_ok-steps.names c.in_ok-steps.ensures.ok f (subst (λ xs. IsSizeFault xs (Some f)) c.as_slice.ensures.value (c.in_err-bodies.ensures.fault f (ap Err own))))

pub forked_once-requires : goal.forked_once-requires
forked_once-requires c =
    let small = subst (λ xs. IsSizeFault xs None) c.as_slice.ensures.value c.in_ok-bodies.ensures.small in
    let made = subst (λ xs. AreBodies xs (map (λ b. b.items) c.in_ok-bodies.bodies.items)) c.as_slice.ensures.value c.in_ok-bodies.ensures.ok in
    let fits = all_fits c.args.text.now c.in_ok-steps.steps.items c.in_ok-steps.names c.in_ok-steps.ensures.ok (map (λ b. b.items) c.in_ok-bodies.bodies.items) small made in
    let count : length c.as_slice-3.result.now ≡ length c.in_ok-bodies.bodies.items = ap length c.as_slice-3.ensures.value in
    omega (arith, fits.bodies, count, length-map c.in_ok-bodies.bodies.items (λ b. b.items))

pub returns-in_err-forked-clause-fault : goal.returns-in_err-forked-clause-fault
returns-in_err-forked-clause-fault c =
    let small = subst (λ xs. IsSizeFault xs None) c.as_slice.ensures.value c.in_ok-bodies.ensures.small in
    let made = subst (λ xs. AreBodies xs (map (λ b. b.items) c.in_ok-bodies.bodies.items)) c.as_slice.ensures.value c.in_ok-bodies.ensures.ok in
    let p = err_from_is_err_and c.from_residual-in_err-forked.result c.from_residual-in_err-forked.ensures.1 in
    λ f is.
    (let gives = p.2 in
    let was = p.1 in
    let own : c.in_err-forked.field-0.0 ≡ error.Fault f = cc in
    let found = c.in_err-forked.ensures.fault f (ap Err own) in
    first_by_forks c.args.text.now c.in_ok-steps.steps.items c.in_ok-steps.names c.in_ok-steps.ensures.ok (map (λ b. b.items) c.in_ok-bodies.bodies.items) small made f
    (ap (second_fork (table_of (map (λ b. b.items) c.in_ok-bodies.bodies.items))) (sym c.as_slice-2.ensures.value)
    ∙ (ap (λ bs. second_fork (table_of (map (λ b. b.items) bs)) c.as_slice-2.result.now) (sym c.as_slice-3.ensures.value) ∙ found)))

pub total_size-size-requires : goal.total_size-size-requires
total_size-size-requires c =
    let small = subst (λ xs. IsSizeFault xs None) c.as_slice.ensures.value c.in_ok-bodies.ensures.small in
    let made = subst (λ xs. AreBodies xs (map (λ b. b.items) c.in_ok-bodies.bodies.items)) c.as_slice.ensures.value c.in_ok-bodies.ensures.ok in
    let fits = all_fits c.args.text.now c.in_ok-steps.steps.items c.in_ok-steps.names c.in_ok-steps.ensures.ok (map (λ b. b.items) c.in_ok-bodies.bodies.items) small made in
    let same = ap (λ bs. sum_by length (map (λ b. b.items) bs)) c.as_slice-4.ensures.value in
    omega (arith, fits.size, same)

pub returns-clause-ok : goal.returns-clause-ok
returns-clause-ok c =
    let small = subst (λ xs. IsSizeFault xs None) c.as_slice.ensures.value c.in_ok-bodies.ensures.small in
    let made = subst (λ xs. AreBodies xs (map (λ b. b.items) c.in_ok-bodies.bodies.items)) c.as_slice.ensures.value c.in_ok-bodies.ensures.ok in
    script_right c.args.text.now c.in_ok-steps.steps.items c.in_ok-steps.names c.in_ok-steps.ensures.ok (map (λ b. b.items) c.in_ok-bodies.bodies.items) small made
    (ap (second_fork (table_of (map (λ b. b.items) c.in_ok-bodies.bodies.items))) (sym c.as_slice-2.ensures.value)
    ∙ (ap (λ bs. second_fork (table_of (map (λ b. b.items) bs)) c.as_slice-2.result.now) (sym c.as_slice-3.ensures.value) ∙ c.in_ok-forked.ensures.once))
    _ refl refl refl refl

pub invariant_of-result : goal.invariant_of-result
invariant_of-result c =
    let small = subst (λ xs. IsSizeFault xs None) c.as_slice.ensures.value c.in_ok-bodies.ensures.small in
    let made = subst (λ xs. AreBodies xs (map (λ b. b.items) c.in_ok-bodies.bodies.items)) c.as_slice.ensures.value c.in_ok-bodies.ensures.ok in
    let B = map (λ b. b.items) c.in_ok-bodies.bodies.items in
    let fits = all_fits c.args.text.now c.in_ok-steps.steps.items c.in_ok-steps.names c.in_ok-steps.ensures.ok (map (λ b. b.items) c.in_ok-bodies.bodies.items) small made in
    let scripts = script_right c.args.text.now c.in_ok-steps.steps.items c.in_ok-steps.names c.in_ok-steps.ensures.ok (map (λ b. b.items) c.in_ok-bodies.bodies.items) small made
    (ap (second_fork (table_of (map (λ b. b.items) c.in_ok-bodies.bodies.items))) (sym c.as_slice-2.ensures.value)
    ∙ (ap (λ bs. second_fork (table_of (map (λ b. b.items) bs)) c.as_slice-2.result.now) (sym c.as_slice-3.ensures.value) ∙ c.in_ok-forked.ensures.once))
    (record { bodies = map (λ b. b.items) c.in_ok-bodies.bodies.items; locks = length c.in_ok-steps.names.locks; variables = length c.in_ok-steps.names.vars; names = c.in_ok-steps.names }) refl refl refl refl in
    let count : length c.as_slice-3.result.now ≡ length c.in_ok-bodies.bodies.items = ap length c.as_slice-3.ensures.value in
    let all : length (map (λ b. b.items) c.in_ok-bodies.bodies.items) ≡ length c.in_ok-bodies.bodies.items = length-map c.in_ok-bodies.bodies.items (λ b. b.items) in
    record {
      script = record {
        formed = well_formed c.args.text.now _ scripts;
        once = forks_once c.args.text.now _ scripts;
        threads = omega (arith, fits.bodies, all);
        locks = fits.locks;
        variables = fits.variables;
        size = fits.size;
      };
      named = fits.threads ∙ all;
      size = c.total_size-size.ensures ∙ ap (λ bs. sum_by length (map (λ b. b.items) bs)) c.as_slice-4.ensures.value;
      marks = c.in_ok-forked.ensures.count ∙ count;
      forked = λ t less.
          (let low : t < MAX_THREADS = omega (arith, fits.bodies, all, less) in
          c.in_ok-forked.ensures.marks t (omega (arith, count, less))
          ∙ ap Some (ap (λ bs. is_some (lines_for (table_of (map (λ b. b.items) bs)) t).first) c.as_slice-3.ensures.value ∙ (table_tells (map (λ b. b.items) c.in_ok-bodies.bodies.items) t low).any));
    }

-- an error is no value
no_value : {T E : Type 0} (P : T → Type 0) (r : Result T E) → IsErr r → IfOk r P
no_value P (Ok x) e = absurd (cc)
no_value P (Err y) e = tt

pub returns-in_err-steps-clause-ok : goal.returns-in_err-steps-clause-ok
returns-in_err-steps-clause-ok c = no_value _ c.from_residual.result c.from_residual.ensures.0

pub returns-in_err-bodies-clause-ok : goal.returns-in_err-bodies-clause-ok
returns-in_err-bodies-clause-ok c = no_value _ c.from_residual-in_err-bodies.result c.from_residual-in_err-bodies.ensures.0

pub returns-in_err-forked-clause-ok : goal.returns-in_err-forked-clause-ok
returns-in_err-forked-clause-ok c = no_value _ c.from_residual-in_err-forked.result c.from_residual-in_err-forked.ensures.0

pub returns-clause-fault : goal.returns-clause-fault
returns-clause-fault c = λ f is. absurd (cc)

pub resolved_lines-requires : goal.resolved_lines-requires
resolved_lines-requires c = c.requires

pub same-names : goal.same-names
same-names c = refl
