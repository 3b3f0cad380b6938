-- The lines of drawn events.
use Rattle.std.proofs.Common.{◌≡◌, ℕ, List, ◌++◌, refl, sym, ap, ◌∙◌, append_assoc}
use Rattle.std.specs.Prelude.{codes}
use Rattle.std.specs.Fmt.{decimal}
use Rattle.trace_laws.specs.Event.{Event}
use Rattle.trace_laws.specs.declared.event.Op.{Op}
use Rattle.trace_laws.specs.declared.event.Op.TheVariants.{Read, Write, Acquire, Release, Fork, Join}
use Rattle.std_text.specs.Writing.{name_at, word_of, operand_name, op_text, event_line, IsOperandNamed, IsNamed}
use Rattle.drawn_trace.specs.Drawn.{drawn_names, operand_letter, operand_number}
use Rattle.drawn_trace.proofs.Naming.{thread_name, lock_name, var_name}

-- pieces in one list
pub flat : (a b c d e : List ℕ) → a ++ (b ++ (c ++ (d ++ e))) ≡ a ++ b ++ c ++ d ++ e
flat a b c d e = simp append_assoc refl

-- the name of what an operation is on
pub object_is : (o : Op) → IsOperandNamed drawn_names o → operand_name drawn_names o ≡ operand_letter o ++ decimal (operand_number o)
object_is (Read x) h = var_name x h
object_is (Write x) h = var_name x h
object_is (Acquire l) h = lock_name l h
object_is (Release l) h = lock_name l h
object_is (Fork u) h = thread_name u h
object_is (Join u) h = thread_name u h

-- the text of an operation
pub op_is : (o : Op) → IsOperandNamed drawn_names o → word_of o ++ codes "(" ++ operand_letter o ++ decimal (operand_number o) ++ codes ")" ≡ op_text drawn_names o
op_is o named = ap (λ xs. xs ++ codes ")") (append_assoc (word_of o ++ codes "(") (operand_letter o) (decimal (operand_number o)) ∙ ap (λ xs. word_of o ++ codes "(" ++ xs) (sym (object_is o named)))

-- the line of an event
pub line_is : (e : Event) (call : List ℕ) → IsNamed drawn_names e → call ≡ op_text drawn_names e.op → codes "T" ++ decimal e.thread ++ codes "|" ++ call ++ codes "|" ++ decimal e.loc ++ codes "\n" ≡ event_line drawn_names e
line_is e call named is =
    ap (λ xs. xs ++ codes "|" ++ call ++ codes "|" ++ decimal e.loc ++ codes "\n") (sym (thread_name e.thread named.thread))
    ∙ ap (λ xs. name_at drawn_names.threads e.thread ++ codes "|" ++ xs ++ codes "|" ++ decimal e.loc ++ codes "\n") is
