-- A text that is a script has no fault.
use Rattle.std.specs.Option.{unwrap_or}
use Rattle.std.proofs.Common.{◌≡◌, ℕ, zero, suc, ◌+◌, ◌≤◌, inl, inr, List, [], ◌∷◌, length, take, map, slice_get, Some, None, refl, sym, ap, ◌∙◌, subst, arith}
use Rattle.std.proofs.lemmas.Bool.{cases_lt}
use Rattle.script_machine.specs.declared.fault.ScriptFault.{ScriptFault as Fault}
use Rattle.script_machine.specs.Machine.{Script}
use Rattle.script_machine.specs.ScriptText.{Numbered, ThreadText, Spells, Scripts, FirstFault, lines_of, words_of, words_say, fault_at, fault_of, statements_of, tables_of, flat_fault, flattened}
use Rattle.script_machine.proofs.Unique.{threads_unique}

-- no line stands past the end
past : (lines : List (List ℕ)) (k : ℕ) → length lines ≤ k → slice_get lines k ≡ None
past [] k h = refl
past (x ∷ xs) zero h = absurd (omega arith)
past (x ∷ xs) (suc k) h = past xs k (omega arith)

-- no fault stands past the last line
pub no_fault_past : (lines : List (List ℕ)) (k : ℕ) → length lines ≤ k → fault_at lines k ≡ None
no_fault_past lines k h = ap (λ o. fault_of (k + 1) (tables_of (statements_of (take k lines))) (words_say (words_of (unwrap_or o [])))) (past lines k h)

-- statements have one script at most
pub same_script : (statements : List Numbered) (ts us : List ThreadText) (a b : Script) → Spells statements ts a → Spells statements us b → (ts ≡ us) × (a ≡ b)
same_script statements ts us a b x y =
    let threads = threads_unique ts us (sym x.spelled ∙ y.spelled) in
    let bodies = x.bodies ∙ ap (map (λ t. flattened (tables_of statements) t.body)) threads ∙ sym y.bodies in
    let locks = x.locks ∙ sym y.locks in
    let variables = x.variables ∙ sym y.variables in
    let names = x.names ∙ sym y.names in
    (threads, λ i. record { bodies = bodies i; locks = locks i; variables = variables i; names = names i })

-- a text that is a script has no fault
pub exclusive : (text : List ℕ) (script : Script) (fault : Fault) → Scripts text script → FirstFault text fault → ⊥
exclusive text script fault s (inl f) = elim (cases_lt f.place (length (lines_of text))) [
  | inl less ↦ (let none = s.clean f.place less in let some = f.here in let clash : None ≡ Some fault = sym none ∙ some in cc)
  | inr more ↦ (let none = no_fault_past (lines_of text) f.place more in let clash : None ≡ Some fault = sym none ∙ f.here in cc)
]
exclusive text script fault s (inr (inl f)) = let clash : None ≡ Some fault = sym s.ends ∙ f.here in cc
exclusive text script fault s (inr (inr f)) =
    let same = same_script (statements_of (lines_of text)) s.threads f.threads script f.script s.spells f.spells in
    let none = subst (λ t. flat_fault (statements_of (lines_of text)) t f.script ≡ None) same.0 (subst (λ x. flat_fault (statements_of (lines_of text)) s.threads x ≡ None) same.1 s.flat) in
    let clash : None ≡ Some fault = sym none ∙ f.here in cc

-- a text has one script at most
pub one_script : (text : List ℕ) (a b : Script) → Scripts text a → Scripts text b → a ≡ b
one_script text a b x y = (same_script (statements_of (lines_of text)) x.threads y.threads a b x.spells y.spells).1
