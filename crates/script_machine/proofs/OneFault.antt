-- A text has one first fault at most.
use Rattle.std.proofs.Common.{◌≡◌, ℕ, ◌<◌, List, length, Some, None, ◌⊎◌, inl, inr, sym, ap, ◌∙◌, subst}
use Rattle.std.proofs.lemmas.Bool.{cases_lt}
use Rattle.trace_laws.proofs.Places.{three_way}
use Rattle.script_machine.specs.declared.fault.ScriptFault.{ScriptFault as Fault}
use Rattle.script_machine.specs.ScriptText.{IsClean, FaultOnLine, FaultInBodies, FirstFault, lines_of, fault_at, statements_of, flat_fault}
use Rattle.script_machine.proofs.Exclusive.{no_fault_past, same_script}

-- where no line has a fault, none is on a line
none_on_line : (text : List ℕ) (fault : Fault) → IsClean text → FaultOnLine text fault → ⊥
none_on_line text fault clean f = elim (cases_lt f.place (length (lines_of text))) [
  | inl less ↦ (let clash : None ≡ Some fault = sym (clean f.place less) ∙ f.here in cc)
  | inr more ↦ (let clash : None ≡ Some fault = sym (no_fault_past (lines_of text) f.place more) ∙ f.here in cc)
]

-- one line is the first that has a fault
one_on_line : (text : List ℕ) (fault other : Fault) → FaultOnLine text fault → FaultOnLine text other → fault ≡ other
one_on_line text fault other x y = go (three_way x.place y.place)
  where
    go : (x.place < y.place) ⊎ ((x.place ≡ y.place) ⊎ (y.place < x.place)) → fault ≡ other
    go (inl less) = let clash : None ≡ Some fault = sym (y.first x.place less) ∙ x.here in absurd (cc)
    go (inr (inl same)) = let both : Some fault ≡ Some other = sym x.here ∙ ap (fault_at (lines_of text)) same ∙ y.here in cc
    go (inr (inr less)) = let clash : None ≡ Some other = sym (x.first y.place less) ∙ y.here in absurd (cc)

-- the flattened bodies have one first fault
one_in_bodies : (text : List ℕ) (fault other : Fault) → FaultInBodies text fault → FaultInBodies text other → fault ≡ other
one_in_bodies text fault other x y =
    let statements = statements_of (lines_of text) in
    let same = same_script statements x.threads y.threads x.script y.script x.spells y.spells in
    let here = subst (λ t. flat_fault statements t y.script ≡ Some fault) same.0 (subst (λ s. flat_fault statements x.threads s ≡ Some fault) same.1 x.here) in
    let both : Some fault ≡ Some other = sym here ∙ y.here in cc

-- a text has one first fault at most
pub one_fault : (text : List ℕ) (fault other : Fault) → FirstFault text fault → FirstFault text other → fault ≡ other
one_fault text fault other (inl x) (inl y) = one_on_line text fault other x y
one_fault text fault other (inl x) (inr (inl y)) = absurd (none_on_line text fault y.clean x)
one_fault text fault other (inl x) (inr (inr y)) = absurd (none_on_line text fault y.clean x)
one_fault text fault other (inr (inl x)) (inl y) = absurd (none_on_line text other x.clean y)
one_fault text fault other (inr (inl x)) (inr (inl y)) = let both : Some fault ≡ Some other = sym x.here ∙ y.here in cc
one_fault text fault other (inr (inl x)) (inr (inr y)) = let clash : None ≡ Some fault = sym y.ends ∙ x.here in absurd (cc)
one_fault text fault other (inr (inr x)) (inl y) = absurd (none_on_line text other x.clean y)
one_fault text fault other (inr (inr x)) (inr (inl y)) = let clash : None ≡ Some other = sym x.ends ∙ y.here in absurd (cc)
one_fault text fault other (inr (inr x)) (inr (inr y)) = one_in_bodies text fault other x y
