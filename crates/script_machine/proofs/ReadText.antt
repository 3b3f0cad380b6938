-- A text whose lines were resolved: its later faults, and its script.
use Rattle.std.proofs.Common.{◌≡◌, ℕ, ◌≤◌, List, length, Some, None, refl, sym, ap, ◌∙◌, subst}
use Rattle.sp_base.specs.declared.limits.TheConstants.{MAX_THREADS, MAX_LOCKS, MAX_VARS, MAX_INSTRUCTIONS}
use Rattle.std.specs.Prelude.{sum_by}
use Rattle.trace_laws.specs.Names.{NameLists}
use Rattle.script_machine.specs.Line.{Line}
use Rattle.script_machine.specs.ResolvedLine.{ResolvedLine}
use Rattle.script_machine.specs.declared.fault.ScriptFault.{ScriptFault as Fault}
use Rattle.script_machine.specs.Machine.{Script}
use Rattle.script_machine.specs.BodyAt.{IsSizeFault, AreBodies}
use Rattle.script_machine.specs.Resolving.{IsResolvedText}
use Rattle.script_machine.specs.ForkTable.{table_of, second_fork}
use Rattle.script_machine.specs.ScriptText.{Numbered, tables_of, statements_of, lines_of, open_fault, open_blocks, unknown_fault, Scripts, FirstFault}
use Rattle.script_machine.proofs.Nesting.{or_none}
use Rattle.script_machine.proofs.Limits.{limits}
use Rattle.script_machine.proofs.WholeText.{NoOpen, size_first, forked_first, all_right, second_by, bounds}

-- bodies, sizes and names are within their limits, and each body has the name of its thread
pub record Fits (named : NameLists) (B : List (List Line)) : Type 0 where
  pub bodies : length B ≤ MAX_THREADS
  pub size : sum_by length B ≤ MAX_INSTRUCTIONS
  pub threads : length named.threads ≡ length B
  pub locks : length named.locks ≤ MAX_LOCKS
  pub variables : length named.vars ≤ MAX_VARS

module _ (text : List ℕ) (steps : List ResolvedLine) (named : NameLists) (t : IsResolvedText text steps named) where
  -- the statements of the text
  abbrev statements : List Numbered
  statements = statements_of (lines_of text)

  -- no block is open at the end
  opens : NoOpen (tables_of statements)
  opens = sym (or_none (open_fault (open_blocks (statements_of (lines_of text)))) (unknown_fault (statements_of (lines_of text))) t.ends).0

  -- no thread is unknown
  known : unknown_fault (statements_of (lines_of text)) ≡ None
  known = (or_none (open_fault (open_blocks (statements_of (lines_of text)))) (unknown_fault (statements_of (lines_of text))) t.ends).1

  -- the fault of the sizes
  pub first_by_size : (f : Fault) → IsSizeFault steps (Some f) → FirstFault text f
  first_by_size f h = size_first text (tables_of statements) t.clean refl statements refl opens t.ends f (h (tables_of statements) statements t.resolved)

  module _ (B : List (List Line)) (small : IsSizeFault steps None) (made : AreBodies steps B) where
    -- the fault of the forks
    pub first_by_forks : (f : Fault) → second_fork (table_of B) steps ≡ Some f → FirstFault text f
    first_by_forks f h =
        forked_first text (tables_of statements) t.clean refl statements refl opens t.ends (small (tables_of statements) statements t.resolved) B (made (tables_of statements) statements t.resolved) f
        (sym h ∙ second_by text (tables_of statements) t.clean refl statements refl known B (table_of B) steps t.resolved refl)

    -- where there is none, this is the script
    pub script_right : second_fork (table_of B) steps ≡ None → (script : Script) → script.bodies ≡ B → script.names ≡ named → script.locks ≡ length script.names.locks → script.variables ≡ length script.names.vars → Scripts text script
    script_right none script same names locks variables =
        all_right text (tables_of statements) t.clean refl statements refl opens t.ends (small (tables_of statements) statements t.resolved) B (made (tables_of statements) statements t.resolved)
        (sym none ∙ second_by text (tables_of statements) t.clean refl statements refl known B (table_of B) steps t.resolved refl) script same (names ∙ t.names) locks variables

    -- all is within the limits
    pub all_fits : Fits named B
    all_fits =
        let b = bounds text (tables_of statements) t.clean refl statements refl opens (small (tables_of statements) statements t.resolved) B (made (tables_of statements) statements t.resolved) in
        let l = limits text t.clean in
        record {
          bodies = b.threads;
          size = b.size;
          threads = ap (λ n. length n.threads) t.names ∙ b.named;
          locks = subst (λ n. length n.locks ≤ MAX_LOCKS) (sym t.names) l.locks;
          variables = subst (λ n. length n.vars ≤ MAX_VARS) (sym t.names) l.variables;
        }
