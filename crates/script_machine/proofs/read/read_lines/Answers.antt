use Rattle.std.proofs.Common.{◌≡◌, ℕ, ◌+◌, ◌≤◌, length, List, [], ◌∷◌, ◌++◌, take, drop, Err, option_to_list, sym, ap, ◌∙◌, below_more, arith}
use Rattle.std.proofs.lemmas.List.{take_all, length-drop}
use Rattle.script_machine.specs.ScriptText.{lines_of, words_of, words_say, statements_of, tables_of, numbered_of}
use Rattle.script_machine.specs.Spoken.{grown_by}
use Rattle.std.proofs.lemmas.Result.{err_from_is_err_and}
use Rattle.script_machine.specs.declared.fault.ScriptError.TheVariants as ScriptError
use Rattle.script_machine.proofs.ReadLemmas.{drop_next, statements_more, tables_more, fault_next}
use Rattle.script_machine.proofs.read.read_lines.Goals as goal

pub loop-front-preserved : goal.loop-front-preserved
loop-front-preserved c =
    let lines : List (List ℕ) = lines_of c.args.text.now in
    let k : ℕ = c.loop-front.line in
    let here : drop k lines ≡ c.in-Some.front.now ∷ lines_of c.in-Some.after.now = c.loop-front.invariant.left ∙ c.in-Some.ensures.lines in
    let more = statements_more lines k c.in-Some.front.now (lines_of c.in-Some.after.now) here in
    let fault = fault_next lines k c.in-Some.front.now (lines_of c.in-Some.after.now) c.loop-front.tables here c.loop-front.invariant.tables in
    record {
      left = drop_next lines k c.in-Some.front.now (lines_of c.in-Some.after.now) here;
      room = omega (arith, c.loop-front.invariant.room, c.in-Some.ensures.shorter);
      statements = c.in_ok-take_line.ensures.statements ∙ ap (λ xs. xs ++ option_to_list (numbered_of (k + 1) (words_say (words_of c.in-Some.front.now)))) c.loop-front.invariant.statements ∙ sym more;
      tables = c.in_ok-take_line.ensures.tables ∙ ap (λ t. grown_by t (numbered_of (k + 1) (words_say (words_of c.in-Some.front.now)))) c.loop-front.invariant.tables
          ∙ sym (tables_more (statements_of (take k lines)) (numbered_of (k + 1) (words_say (words_of c.in-Some.front.now)))) ∙ ap tables_of (sym more);
      clean = below_more _ _ c.loop-front.invariant.clean (fault ∙ c.in_ok-take_line.ensures.clean);
    }

pub returns-clause-ok : goal.returns-clause-ok
returns-clause-ok c =
    let lines : List (List ℕ) = lines_of c.args.text.now in
    let none : drop c.loop-front.line lines ≡ [] = c.loop-front.invariant.left ∙ c.in_default.ensures.lines in
    let few : length lines ≤ c.loop-front.line = (let e = ap length none in omega (arith, length-drop c.loop-front.line lines, e)) in (
      (λ k less. c.loop-front.invariant.clean k (omega arith)),
      c.loop-front.invariant.statements ∙ ap statements_of (take_all c.loop-front.line lines few),
      c.loop-front.invariant.tables ∙ ap (λ ls. tables_of (statements_of ls)) (take_all c.loop-front.line lines few),
    )

pub returns-in_err-take_line-clause-fault : goal.returns-in_err-take_line-clause-fault
returns-in_err-take_line-clause-fault c =
    let lines : List (List ℕ) = lines_of c.args.text.now in
    let k : ℕ = c.loop-front.line in
    let here : drop k lines ≡ c.in-Some.front.now ∷ lines_of c.in-Some.after.now = c.loop-front.invariant.left ∙ c.in-Some.ensures.lines in
    let fault = fault_next lines k c.in-Some.front.now (lines_of c.in-Some.after.now) c.loop-front.tables here c.loop-front.invariant.tables in
    let p = err_from_is_err_and c.from_residual-in_err-take_line.result c.from_residual-in_err-take_line.ensures.1 in
    λ f is.
    (let gives = p.2 in
    let was = p.1 in
    let own : c.in_err-take_line.field-0.0 ≡ ScriptError.Fault f = cc in
    record { place = k; here = fault ∙ c.in_err-take_line.ensures.fault f (ap Err own); first = c.loop-front.invariant.clean })
