-- Local instructions, taken one at a time.
use Rattle.std.proofs.Common.{◌≡◌, ℕ, zero, suc, ◌+◌, ◌<◌, List, [], ◌∷◌, length, drop, drop-drop, get_or, Option, Some, None, refl, sym, ap, subst, ◌∙◌, ◌≤◌, arith}
use Rattle.std.proofs.lemmas.List.{drop_more}
use Rattle.script_machine.specs.Line.{Line}
use Rattle.script_machine.specs.declared.instruction.Instruction.{Instruction}
use Rattle.script_machine.specs.declared.instruction.Instruction.TheVariants.{Do, WriteNumber, Add, If, Jump}
use Rattle.script_machine.specs.Machine.{Local, IsSettled, settled, moved, call_at, jump, go_on, op_of}

-- to jump over instructions is to begin behind them
pub settled_skip : (k : ℕ) (lines : List Line) (register : ℕ) → settled k lines register ≡ settled 0 (drop k lines) register
settled_skip zero lines register = refl
settled_skip (suc k) [] register = refl
settled_skip (suc k) (x ∷ xs) register = settled_skip k xs register

-- a local instruction at the front, by its jump
pub settled_front : (line : Line) (rest : List Line) (register next count : ℕ) → jump line.instruction register ≡ Some (next, count)
    → settled 0 (line ∷ rest) register ≡ settled 0 (drop count rest) next
settled_front line rest register next count h = rw h (settled_skip count rest next)

-- at a local instruction one goes on by its jump
pub settled_jump : (lines : List Line) (i : ℕ) (d : Line) (register next count : ℕ) → i < length lines
    → jump (get_or lines i d).instruction register ≡ Some (next, count)
    → settled 0 (drop (i + (1 + count)) lines) next ≡ settled 0 (drop i lines) register
settled_jump lines i d register next count h is =
    let there : drop (i + (1 + count)) lines ≡ drop count (drop (i + 1) lines) = sym (drop-drop count (i + 1) lines ∙ ap (λ n. drop n lines) (omega arith)) in
    rw (drop_more lines i d h, there) (sym (settled_front (get_or lines i d) (drop (i + 1) lines) register next count is))

-- no jump makes a list longer
short_go : (o : Option (ℕ × ℕ)) (here : Local) (go : ℕ → ℕ → Local) (n : ℕ) → length here.left ≤ suc n → ((skip r : ℕ) → length (go skip r).left ≤ n) → length (go_on o here go).left ≤ suc n
short_go None here go n h k = h
short_go (Some j) here go n h k = let l : length (go j.1 j.0).left ≤ n = k j.1 j.0 in omega arith

-- local instructions make what is left no longer
pub settled_short : (k : ℕ) (lines : List Line) (register : ℕ) → length (settled k lines register).left ≤ length lines
settled_short k [] register = omega arith
settled_short (suc k) (x ∷ xs) register = let l = settled_short k xs register in omega arith
settled_short zero (x ∷ xs) register =
    short_go (jump x.instruction register) (record { left = x ∷ xs; register = register }) (λ skip r. settled skip xs r) (length xs) (omega arith) (λ skip r. settled_short skip xs r)

-- no local instruction stands where a thread stands
pub no_jump : (line : Line) (rest : List Line) (register : ℕ) → IsSettled (record { left = line ∷ rest; register = register }) → jump line.instruction register ≡ None
no_jump line rest register h = go (jump line.instruction register) refl
  where
    go : (o : Option (ℕ × ℕ)) → jump line.instruction register ≡ o → o ≡ None
    go None e = refl
    go (Some j) e =
        let went = rw e at h in
        let long : length (settled j.1 rest j.0).left ≡ suc (length rest) = ap (λ l. length l.left) went in
        let few : length (settled j.1 rest j.0).left ≤ length rest = settled_short j.1 rest j.0 in
        absurd (omega arith)

-- an instruction that is not local has an operation
has_op : (i : Instruction) (register : ℕ) → jump i register ≡ None → op_of i ≡ None → ⊥
has_op (Do op) register h e = cc
has_op (WriteNumber x n) register h e = cc
has_op (Add n) register h e = cc
has_op (If n count) register h e = cc
has_op (Jump count) register h e = cc

-- there is a call where a settled thread is not at its end
pub call_there : (lines : List Line) (i : ℕ) (d : Line) (register : ℕ) → i < length lines
    → IsSettled (record { left = drop i lines; register = register }) → op_of (get_or lines i d).instruction ≡ None → ⊥
call_there lines i d register h settled_here e =
    let front = drop_more lines i d h in
    has_op (get_or lines i d).instruction register
    (no_jump (get_or lines i d) (drop (i + 1) lines) register (subst (λ x. IsSettled (record { left = x; register = register })) front settled_here)) e

-- where a thread goes on from its first instruction it is settled
settled_go : (line : Line) (rest : List Line) (register : ℕ) (o : Option (ℕ × ℕ)) → jump line.instruction register ≡ o → ((skip r : ℕ) → IsSettled (settled skip rest r))
    → IsSettled (go_on o (record { left = line ∷ rest; register = register }) (λ skip r. settled skip rest r))
settled_go line rest register None e later = rw e refl
settled_go line rest register (Some j) e later = later j.1 j.0

-- a thread that took its local instructions has none to take
pub settled_is : (skip : ℕ) (lines : List Line) (register : ℕ) → IsSettled (settled skip lines register)
settled_is skip [] register = refl
settled_is (suc k) (x ∷ xs) register = settled_is k xs register
settled_is zero (x ∷ xs) register = settled_go x xs register (jump x.instruction register) refl (λ skip r. settled_is skip xs r)

-- nor has one after its next instruction
pub moved_is : (left : List Line) (register v : ℕ) → IsSettled (moved left register v)
moved_is [] register v = refl
moved_is (line ∷ rest) register v = settled_is 0 rest _

-- a settled thread without a next call is at its end
pub call_none : (left : List Line) (register : ℕ) → IsSettled (record { left = left; register = register }) → call_at left ≡ None → left ≡ []
call_none [] register h e = refl
call_none (line ∷ rest) register h e = absurd (has_op line.instruction register (no_jump line rest register h) e)
