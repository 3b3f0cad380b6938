-- Worked texts, computed by the definitions.
use Rattle.std.proofs.Common.{◌≡◌, ℕ, zero, suc, ◌<◌, List, [], ◌∷◌, ◌++◌, Option, Some, None, refl, codes, flat_map, length, map, replicate, drop, arith}
use Rattle.script_machine.specs.declared.fault.ScriptKind.{ScriptKind}
use Rattle.script_machine.specs.declared.fault.ScriptKind.TheVariants as kind
use Rattle.script_machine.specs.declared.fault.ScriptFault.{ScriptFault as Fault}
use Rattle.script_machine.specs.Line.{Line}
use Rattle.script_machine.specs.ScriptText.{lines_of, statements_of, fault_at, end_fault, Empty, Simple, Either, Times, ThreadText, threads_spelling, flattened, tables_of, Read, Write, WriteNumber, Scripts}
use Rattle.script_machine.specs.Machine.{Script, Taken, Step, start, after, call_at}
use Rattle.trace_laws.specs.declared.event.Op.TheVariants as op
use Rattle.script_machine.specs.declared.instruction.Instruction.TheVariants as instruction

-- the text of these lines
abbrev text : List (List ℕ) → List ℕ
text lines = flat_map (λ l. l ++ 10 ∷ []) lines

-- a fault of the kind on the line
abbrev fault : ℕ → ScriptKind → Option Fault
fault line k = Some (record { line = line; kind = k })

-- a word that is none of the language
pub unknown_word : fault_at (lines_of (text (codes "thread T0" ∷ codes "lok A" ∷ []))) 1 ≡ fault 2 kind.UnknownWord
unknown_word = refl

-- a name is missing
pub operand : fault_at (lines_of (text (codes "thread T0" ∷ codes "lock" ∷ []))) 1 ≡ fault 2 kind.Operand
operand = refl

-- a number is none
pub number : fault_at (lines_of (text (codes "thread T0" ∷ codes "add x" ∷ []))) 1 ≡ fault 2 kind.Number
number = refl

-- a line before the first thread
pub no_thread : fault_at (lines_of (text (codes "lock A" ∷ []))) 0 ≡ fault 1 kind.NoThread
no_thread = refl

-- two bodies of one thread
pub twice_named : fault_at (lines_of (text (codes "thread T0" ∷ codes "thread T0" ∷ []))) 1 ≡ fault 2 kind.TwiceNamed
twice_named = refl

-- a fork of a thread without a body
pub unknown_thread : end_fault (statements_of (lines_of (text (codes "thread T0" ∷ codes "fork T1" ∷ [])))) ≡ fault 2 kind.UnknownThread
unknown_thread = refl

-- a block that is open at the end
pub open_block : end_fault (statements_of (lines_of (text (codes "thread T0" ∷ codes "if 1" ∷ [])))) ≡ fault 2 kind.OpenBlock
open_block = refl

-- an end without a block
pub stray_end : fault_at (lines_of (text (codes "thread T0" ∷ codes "end" ∷ []))) 1 ≡ fault 2 kind.StrayEnd
stray_end = refl

-- the sixty-fifth open block
pub too_deep : fault_at (lines_of (text (codes "thread T0" ∷ replicate 65 (codes "if 0")))) 65 ≡ fault 66 kind.TooDeep
too_deep = refl

-- thread T0, repeat 2, read X, if 0, write X 1, else, write Y, end, end
abbrev two_turns : List ℕ
two_turns = text (codes "thread T0" ∷ codes "repeat 2" ∷ codes "read X" ∷ codes "if 0" ∷ codes "write X 1" ∷ codes "else" ∷ codes "write Y" ∷ codes "end" ∷ codes "end" ∷ [])

-- its one thread
abbrev two_turns_threads : List ThreadText
two_turns_threads = record { line = 1; name = codes "T0"; body = Times 2 2 (Simple 3 (Read (codes "X")) (Either 4 0 (Simple 5 (WriteNumber (codes "X") 1) Empty) 6 (Simple 7 (Write (codes "Y")) Empty) 8 Empty)) 9 Empty } ∷ []

-- the text spells it
pub two_turns_spelled : statements_of (lines_of two_turns) ≡ threads_spelling two_turns_threads
two_turns_spelled = refl

-- its body written out
abbrev two_turns_flat : List Line
two_turns_flat = flattened (tables_of (statements_of (lines_of two_turns))) (Times 2 2 (Simple 3 (Read (codes "X")) (Either 4 0 (Simple 5 (WriteNumber (codes "X") 1) Empty) 6 (Simple 7 (Write (codes "Y")) Empty) 8 Empty)) 9 Empty)

-- the copies keep their lines
pub two_turns_lines : map (λ l. l.number) two_turns_flat ≡ 3 ∷ 4 ∷ 5 ∷ 6 ∷ 7 ∷ 3 ∷ 4 ∷ 5 ∷ 6 ∷ 7 ∷ []
two_turns_lines = refl

-- its script
abbrev two_turns_script : Script
two_turns_script = record {
  bodies = two_turns_flat ∷ [];
  locks = 0;
  variables = 2;
  names = record { threads = codes "T0" ∷ []; locks = []; vars = codes "X" ∷ codes "Y" ∷ [] };
}

-- the text is in the grammar, and this is its script
pub two_turns_scripts : Scripts two_turns two_turns_script
two_turns_scripts = record {
  clean = clean;
  threads = two_turns_threads;
  spells = record { spelled = refl; bodies = refl; locks = refl; variables = refl; names = refl };
  ends = refl;
  flat = refl;
}
  where
    clean : (k : ℕ) → k < length (lines_of two_turns) → fault_at (lines_of two_turns) k ≡ None
    clean zero h = refl
    clean (suc zero) h = refl
    clean (suc (suc zero)) h = refl
    clean (suc (suc (suc zero))) h = refl
    clean (suc (suc (suc (suc zero)))) h = refl
    clean (suc (suc (suc (suc (suc zero))))) h = refl
    clean (suc (suc (suc (suc (suc (suc zero)))))) h = refl
    clean (suc (suc (suc (suc (suc (suc (suc zero))))))) h = refl
    clean (suc (suc (suc (suc (suc (suc (suc (suc zero)))))))) h = refl
    clean (suc (suc (suc (suc (suc (suc (suc (suc (suc k))))))))) h = absurd (omega (arith, h))

-- its run: r(X) at 3, w(X) at 5, r(X) at 3, w(Y) at 7
abbrev taken : op.the_data → ℕ → ℕ → Taken
taken o loc brought = record { event = record { thread = 0; op = o; loc = loc }; brought = brought }

-- the first step reads X
pub two_turns_first : Step two_turns_script (start two_turns_script) (taken (op.Read 0) 3 0) (after (start two_turns_script) 0 (op.Read 0) 0 (drop 1 two_turns_flat))
two_turns_first = record {
  line = record { instruction = instruction.Do (op.Read 0); number = 3 };
  rest = drop 1 two_turns_flat;
  next = refl;
  awake = refl;
  op = refl;
  loc = refl;
  brought = refl;
  can = tt;
  new = refl;
}

-- after it the branch was taken, and the thread stands before `write X 1`
pub two_turns_branch : call_at ((after (start two_turns_script) 0 (op.Read 0) 0 (drop 1 two_turns_flat)).thread 0).left ≡ Some (op.Write 0)
two_turns_branch = refl
