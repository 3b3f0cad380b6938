-- Statements with numbers in place of names.
use Rattle.std.specs.Prelude.{◌≡◌, ℕ, Bool, true, false, List, map, find, Option, Some, None, if◌then◌else◌}
use Rattle.script_machine.specs.declared.fault.ScriptFault.{ScriptFault as Fault}
use Rattle.script_machine.specs.declared.fault.ScriptKind.TheVariants.{UnknownThread}
use Rattle.script_machine.specs.declared.resolved.Resolved.{Resolved}
use Rattle.script_machine.specs.declared.resolved.Resolved.TheVariants as resolved
use Rattle.trace_laws.specs.Names.{NameLists}
use Rattle.script_machine.specs.ResolvedLine.{ResolvedLine}
use Rattle.script_machine.specs.ScriptText.{Statement, Numbered, Tables, Thread, Act, If, Else, Repeat, End, instruction_of, is_new, other_name, fault_on, IsClean, end_fault, tables_of, names_of, statements_of, lines_of}

-- the statement with the numbers that its names have
abbrev pub resolved_of : Tables → Statement → Resolved
resolved_of names (Thread name) = resolved.Thread
resolved_of names (Act action) = resolved.Act (instruction_of names action)
resolved_of names (If n) = resolved.If n
resolved_of names Else = resolved.Else
resolved_of names (Repeat n) = resolved.Repeat n
resolved_of names End = resolved.End

-- nothing where it forks or joins a thread without a body
abbrev pub known_of : Tables → Statement → Option Resolved
known_of names says = if is_new (other_name says) names.threads then None else Some (resolved_of names says)

-- the statement resolved, with the number of its line
abbrev pub resolved_line : Tables → Numbered → ResolvedLine
resolved_line names s = record { line = s.line; says = resolved_of names s.says }

-- the first fork or join of a thread that is none of the names
abbrev pub unknown_in : Tables → List Numbered → Option Fault
unknown_in names statements = fault_on UnknownThread (find (λ s. is_new (other_name s.says) names.threads) statements)

-- the lines are these statements, resolved
abbrev pub AreResolved : Tables → List Numbered → List ResolvedLine → Type 0
AreResolved names statements lines = lines ≡ map (resolved_line names) statements

-- no line of the text has a fault, nor has its end one that needs no flattened body, and these are its lines and names
pub record IsResolvedText (text : List ℕ) (lines : List ResolvedLine) (named : NameLists) : Type 0 where
  pub clean : IsClean text
  pub ends : end_fault (statements_of (lines_of text)) ≡ None
  pub resolved : AreResolved (tables_of (statements_of (lines_of text))) (statements_of (lines_of text)) lines
  pub names : named ≡ names_of (statements_of (lines_of text))

-- the statement closes a block
abbrev pub closes : Resolved → Bool
closes resolved.End = true
closes says = false

-- an `end` stands there
abbrev pub end_at : Option ResolvedLine → Bool
end_at None = false
end_at (Some s) = closes s.says

-- the line, where the statement is an `else`
abbrev pub parting : ℕ → Resolved → Option ℕ
parting line resolved.Else = Some line
parting line says = None

-- the line of the `else` that stands there
abbrev pub else_at : Option ResolvedLine → Option ℕ
else_at None = None
else_at (Some s) = parting s.line s.says
