use Rattle.std.proofs.Common.{◌≡◌, Some, Err, map, sym, ap, ◌∙◌}
use Rattle.std.proofs.lemmas.Result.{err_from_is_err_and}
use Rattle.script_machine.specs.declared.fault.ScriptError.TheVariants as error
use Rattle.script_machine.specs.ScriptText.{tables_of, statements_of, lines_of}
use Rattle.script_machine.specs.Resolving.{resolved_line}
use Rattle.script_machine.specs.Spoken.{numbered}
use Rattle.script_machine.proofs.KnownNames.{names_known}
use Rattle.script_machine.proofs.WholeText.{ends_none, open_first, unknown_first}
use Rattle.script_machine.proofs.resolved.resolved_lines.Goals as goal

pub resolve-requires : goal.resolve-requires
resolve-requires c =
    let (clean, spelled, tabs) = c.in_ok-statements.ensures.ok in
    names_known c.args.text.now c.in_ok-statements.tables tabs (map numbered c.as_slice.result.now) (ap (map numbered) c.as_slice.ensures.value ∙ spelled)

pub returns-in-Some-clause-fault : goal.returns-in-Some-clause-fault
returns-in-Some-clause-fault c =
    let (clean, spelled, tabs) = c.in_ok-statements.ensures.ok in
    λ f is. (let same : c.in-Some.fault ≡ f = cc in open_first c.args.text.now c.in_ok-statements.tables clean tabs f (ap Some (sym same) ∙ c.in-Some.ensures))

pub returns-in_err-lines-clause-fault : goal.returns-in_err-lines-clause-fault
returns-in_err-lines-clause-fault c =
    let (clean, spelled, tabs) = c.in_ok-statements.ensures.ok in
    let p = err_from_is_err_and c.from_residual-in_err-lines.result c.from_residual-in_err-lines.ensures.1 in
    λ f is.
    (let gives = p.2 in
    let was = p.1 in
    let own : c.in_err-lines.field-0.0 ≡ error.Fault f = cc in
    unknown_first c.args.text.now c.in_ok-statements.tables clean tabs (map numbered c.as_slice.result.now) (ap (map numbered) c.as_slice.ensures.value ∙ spelled) c.in_default.ensures f (sym (c.in_err-lines.ensures.fault f (ap Err own))))

pub returns-clause-ok : goal.returns-clause-ok
returns-clause-ok c =
    let (clean, spelled, tabs) = c.in_ok-statements.ensures.ok in
    let all = ap (map numbered) c.as_slice.ensures.value ∙ spelled in
    record {
      clean = clean;
      ends = ends_none c.args.text.now c.in_ok-statements.tables clean tabs (map numbered c.as_slice.result.now) all c.in_default.ensures (sym c.in_ok-lines.ensures.known);
      resolved = c.in_ok-lines.ensures.ok ∙ (ap (λ t. map (resolved_line t) (map numbered c.as_slice.result.now)) tabs ∙ ap (map (resolved_line (tables_of (statements_of (lines_of c.args.text.now))))) all);
      names = c.into_names.ensures ∙ ap (λ t. record { threads = t.threads; locks = t.locks; vars = t.variables }) (c.in_ok-lines.ensures.same ∙ tabs);
    }
