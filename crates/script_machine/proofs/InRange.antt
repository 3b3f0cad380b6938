-- Operands stay in range.
use Rattle.std.proofs.Common.{◌≡◌, ℕ, zero, suc, ◌<◌, List, [], ◌∷◌, length, get_or, map, slice_get, Option, Some, None, All, IfSome, sym, ap, subst, arith}
use Rattle.std.specs.Option.{unwrap_or}
use Rattle.std.proofs.lemmas.List.Elements.{All-head, All-tail}
use Rattle.trace_laws.specs.declared.event.Op.{Op}
use Rattle.script_machine.specs.Line.{Line}
use Rattle.script_machine.specs.declared.instruction.Instruction.{Instruction}
use Rattle.script_machine.specs.declared.instruction.Instruction.TheVariants.{Do, WriteNumber}
use Rattle.script_machine.specs.Machine.{Script, Local, InRange, OpInRange, call_at, settled, go_on, jump, op_of, moved}

-- the body of a thread, as the code reads it
pub body_of : {V : Type 0} (items : V → List Line) (vs : List V) (t : ℕ) (v : V) → t < length vs → v ≡ get_or vs t v → unwrap_or (slice_get (map items vs) t) [] ≡ items v
body_of items [] t v h e = absurd (omega arith)
body_of items (x ∷ xs) zero v h e = ap items (sym e)
body_of items (x ∷ xs) (suc t) v h e = body_of items xs t v (omega arith) e

-- the operands of these lines are in range
abbrev pub Operands : Script → List Line → Type 0
Operands script lines = All (λ line. InRange script line.instruction) lines

-- those of an instruction are those of its operation
pub in_range_op : (script : Script) (i : Instruction) → InRange script i → IfSome (op_of i) (λ op. OpInRange script op)
in_range_op script (Do op) h = h
in_range_op script (WriteNumber x n) h = h
in_range_op script _ h = tt

-- the operands of an instruction's operation
pub op_there : (script : Script) (i : Instruction) (op : Op) → op_of i ≡ Some op → InRange script i → OpInRange script op
op_there script i op is h = subst (λ o. IfSome o (λ op. OpInRange script op)) is (in_range_op script i h)

-- the operands of the next call are in range
pub call_in_range : (script : Script) (left : List Line) → Operands script left → IfSome (call_at left) (λ op. OpInRange script op)
call_in_range script [] h = tt
call_in_range script (line ∷ rest) h = in_range_op script line.instruction (All-head (λ l. InRange script l.instruction) line rest h)

-- a jump leaves operands in range
go_in_range : (script : Script) (o : Option (ℕ × ℕ)) (here : Local) (go : ℕ → ℕ → Local) → Operands script here.left → ((skip r : ℕ) → Operands script (go skip r).left) → Operands script (go_on o here go).left
go_in_range script None here go h k = h
go_in_range script (Some j) here go h k = k j.1 j.0

-- so do all local instructions together
pub settled_in_range : (script : Script) (skip : ℕ) (lines : List Line) (register : ℕ) → Operands script lines → Operands script (settled skip lines register).left
settled_in_range script skip [] register h = h
settled_in_range script (suc k) (x ∷ xs) register h = settled_in_range script k xs register (All-tail (λ l. InRange script l.instruction) x xs h)
settled_in_range script zero (x ∷ xs) register h =
    go_in_range script (jump x.instruction register) (record { left = x ∷ xs; register = register }) (λ skip r. settled skip xs r) h
    (λ skip r. settled_in_range script skip xs r (All-tail (λ l. InRange script l.instruction) x xs h))

-- and the next instruction with those behind it
pub moved_in_range : (script : Script) (left : List Line) (register v : ℕ) → Operands script left → Operands script (moved left register v).left
moved_in_range script [] register v h = h
moved_in_range script (line ∷ rest) register v h = settled_in_range script 0 rest _ (All-tail (λ l. InRange script l.instruction) line rest h)
