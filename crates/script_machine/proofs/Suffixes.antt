-- What is left of a list of instructions is an end of it.
use Rattle.std.proofs.Common.{◌≡◌, ℕ, zero, suc, Bool, true, false, ◌||◌, List, [], ◌∷◌, ◌++◌, slice_get, length, append_assoc, Option, Some, None, refl, sym, ap, ◌∙◌, eq-eqb}
use Rattle.std.specs.List.{list_any}
use Rattle.trace_laws.specs.declared.event.Op.TheVariants.{Write, Fork}
use Rattle.script_machine.specs.Line.{Line}
use Rattle.script_machine.specs.declared.instruction.Instruction.{Instruction}
use Rattle.script_machine.specs.declared.instruction.Instruction.TheVariants.{Do, WriteNumber, Add, If, Jump}
use Rattle.script_machine.specs.Machine.{Local, settled, jump, go_on, op_of, forks}

-- what is left of a list after some of it
pub record Suffix (lines left : List Line) : Type 0 where
  pub front : List Line
  pub whole : lines ≡ front ++ left

-- nothing is taken
suffix_all : (lines : List Line) → Suffix lines lines
suffix_all lines = record { front = []; whole = refl }

-- one more in front
suffix_cons : (x : Line) (lines left : List Line) → Suffix lines left → Suffix (x ∷ lines) left
suffix_cons x lines left s = record { front = x ∷ s.front; whole = ap (λ xs. x ∷ xs) s.whole }

-- one after the other
pub suffix_step : (lines left : List Line) (x : Line) (rest : List Line) → Suffix lines (x ∷ rest) → Suffix rest left → Suffix lines left
suffix_step lines left x rest s r = record {
  front = s.front ++ (x ∷ r.front);
  whole = s.whole ∙ ap (λ xs. s.front ++ (x ∷ xs)) r.whole ∙ sym (append_assoc s.front (x ∷ r.front) left);
}

-- a jump leaves an end of the list
suffix_go : (lines : List Line) (o : Option (ℕ × ℕ)) (here : Local) (go : ℕ → ℕ → Local) → Suffix lines here.left → ((skip r : ℕ) → Suffix lines (go skip r).left) → Suffix lines (go_on o here go).left
suffix_go lines None here go h k = h
suffix_go lines (Some j) here go h k = k j.1 j.0

-- so do all local instructions together
pub settled_suffix : (skip : ℕ) (lines : List Line) (register : ℕ) → Suffix lines (settled skip lines register).left
settled_suffix skip [] register = suffix_all []
settled_suffix (suc k) (x ∷ xs) register = suffix_cons x xs _ (settled_suffix k xs register)
settled_suffix zero (x ∷ xs) register =
    suffix_go (x ∷ xs) (jump x.instruction register) (record { left = x ∷ xs; register = register }) (λ skip r. settled skip xs r)
    (suffix_all (x ∷ xs)) (λ skip r. suffix_cons x xs _ (settled_suffix skip xs r))

-- what stands just behind a front
pub get_front : (front : List Line) (x : Line) (rest : List Line) → slice_get (front ++ x ∷ rest) (length front) ≡ Some x
get_front [] x rest = refl
get_front (y ∷ ys) x rest = get_front ys x rest

-- a test that an element passes is passed by some element
pub any_at : {X : Type 0} (test : X → Bool) (xs : List X) (i : ℕ) (x : X) → slice_get xs i ≡ Some x → test x ≡ true → list_any test xs ≡ true
any_at test [] i x h t = absurd (cc)
any_at test (y ∷ ys) zero x h t = let same : y ≡ x = cc in rw (same, t) refl
any_at test (y ∷ ys) (suc i) x h t = rw (any_at test ys i x h t) (go (test y))
  where
    go : (b : Bool) → (b || true) ≡ true
    go true = refl
    go false = refl

-- an instruction whose operation is a fork forks that thread
pub forks_op : (i : Instruction) (u : ℕ) → op_of i ≡ Some (Fork u) → forks u i ≡ true
forks_op (Do op) u h = let same : op ≡ Fork u = cc in rw same (eq-eqb u u refl)
forks_op (WriteNumber x n) u h = absurd (let no' : Write x ≡ Fork u = cc in cc)
forks_op (Add n) u h = absurd (cc)
forks_op (If n count) u h = absurd (cc)
forks_op (Jump count) u h = absurd (cc)
