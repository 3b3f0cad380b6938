-- Statements resolved one after the other.
use Rattle.std.specs.Prelude.{find}
use Rattle.std.proofs.Common.{◌≡◌, ℕ, ◌+◌, ◌<◌, true, false, inl, inr, List, [], ◌∷◌, ◌++◌, length, map, take, drop, get_or, slice_get, Option, Some, None, Result, Err, refl, sym, ap, ◌∙◌, subst}
use Rattle.std.proofs.lemmas.List.{map-append}
use Rattle.std.proofs.lemmas.Bool.{cases_Bool}
use Rattle.script_machine.specs.declared.fault.ScriptError.TheVariants as error
use Rattle.script_machine.specs.declared.fault.ScriptFault.{ScriptFault as Fault}
use Rattle.script_machine.specs.declared.fault.ScriptKind.TheVariants.{UnknownThread}
use Rattle.script_machine.specs.declared.read.NumberedStatement.{NumberedStatement}
use Rattle.script_machine.specs.declared.resolved.Resolved.{Resolved}
use Rattle.script_machine.specs.ResolvedLine.{ResolvedLine}
use Rattle.script_machine.specs.Resolving.{known_of, resolved_of, resolved_line, unknown_in}
use Rattle.script_machine.specs.ScriptText.{Numbered, Tables, Statement, is_new, other_name, fault_on, at_line}
use Rattle.script_machine.specs.Said.{said}
use Rattle.script_machine.specs.Spoken.{numbered}
use Rattle.script_machine.specs.Known.{IsKnown, AreKnown}
use Rattle.script_machine.proofs.Bodies.{spoken_of}
use Rattle.script_machine.proofs.KnownNames.{known_at}
use Rattle.script_machine.proofs.ResolvedLemmas.{take_next}
use Rattle.script_machine.proofs.ThreadsRead.{find_next, find_here}

-- a statement that was resolved names no thread that is new
known_some : (names : Tables) (says : Statement) (r : Resolved) → Some r ≡ known_of names says → (is_new (other_name says) names.threads ≡ false) × (r ≡ resolved_of names says)
known_some names says r h = elim (cases_Bool (is_new (other_name says) names.threads)) [
  | inl t ↦ absurd (let h' = rw t at h in cc)
  | inr f ↦ (f, let h' = rw f at h in cc)
]

-- one that was not names one
known_none : (names : Tables) (says : Statement) → None ≡ known_of names says → is_new (other_name says) names.threads ≡ true
known_none names says h = elim (cases_Bool (is_new (other_name says) names.threads)) [
  | inl t ↦ t
  | inr f ↦ absurd (let h' = rw f at h in cc)
]

-- equal errors are errors of one cause
pub err_same : {T E : Type 0} (a b : E) (x y : Result T E) → x ≡ Err a → y ≡ Err b → x ≡ y → a ≡ b
err_same a b x y h k e = cc

module _ (names now : Tables) (xs : List NumberedStatement) (k : ℕ) (d : NumberedStatement) (less : k < length xs) (same : now ≡ names) where
  -- the next statement stands there
  here : slice_get (map numbered xs) k ≡ Some (at_line (get_or xs k d).line (said (get_or xs k d).says))
  here = spoken_of xs k d (said (get_or xs k d).says) less refl

  -- the next statement's lock and variable have numbers
  pub next_known : AreKnown names (map numbered xs) → IsKnown now (said (get_or xs k d).says)
  next_known all = subst (λ t. IsKnown t (said (get_or xs k d).says)) (sym same) (known_at names (map numbered xs) k (at_line (get_or xs k d).line (said (get_or xs k d).says)) all here)

  -- the next statement is the first that names an unknown thread
  pub next_unknown : (o : Option Resolved) → o ≡ None → o ≡ known_of now (said (get_or xs k d).says)
      → find (λ s. is_new (other_name s.says) names.threads) (map numbered xs) ≡ find (λ s. is_new (other_name s.says) names.threads) (drop k (map numbered xs))
      → (f : Fault) → error.Fault (record { line = (get_or xs k d).line; kind = UnknownThread }) ≡ error.Fault f → unknown_in names (map numbered xs) ≡ Some f
  next_unknown o none value before f is =
      let new = known_none names (said (get_or xs k d).says) (sym none ∙ (value ∙ ap (λ t. known_of t (said (get_or xs k d).says)) same)) in
      let first = find_here (λ s. is_new (other_name s.says) names.threads) (map numbered xs) k (at_line (get_or xs k d).line (said (get_or xs k d).says)) here new before in
      let given : record { line = (get_or xs k d).line; kind = UnknownThread } ≡ f = cc in
      ap (fault_on UnknownThread) first ∙ ap Some given

  module _ (o : Option Resolved) (r : Resolved) (some : o ≡ Some r) (value : o ≡ known_of now (said (get_or xs k d).says)) where
    known : (is_new (other_name (said (get_or xs k d).says)) names.threads ≡ false) × (r ≡ resolved_of names (said (get_or xs k d).says))
    known = known_some names (said (get_or xs k d).says) r (sym some ∙ (value ∙ ap (λ t. known_of t (said (get_or xs k d).says)) same))

    -- one more statement is resolved
    pub next_resolved : (done new : List ResolvedLine) → done ≡ map (resolved_line names) (take k (map numbered xs)) → new ≡ done ++ record { line = (get_or xs k d).line; says = r } ∷ []
        → new ≡ map (resolved_line names) (take (k + 1) (map numbered xs))
    next_resolved done new sofar pushed =
        let s : Numbered = at_line (get_or xs k d).line (said (get_or xs k d).says) in
        pushed ∙ (ap (λ ys. ys ++ record { line = (get_or xs k d).line; says = r } ∷ []) sofar
        ∙ (ap (λ x. map (resolved_line names) (take k (map numbered xs)) ++ record { line = (get_or xs k d).line; says = x } ∷ []) known.1
        ∙ sym (ap (map (resolved_line names)) (take_next (map numbered xs) k s here) ∙ map-append (resolved_line names) (take k (map numbered xs)) (s ∷ []))))

    -- it names no unknown thread
    pub next_none : find (λ s. is_new (other_name s.says) names.threads) (map numbered xs) ≡ find (λ s. is_new (other_name s.says) names.threads) (drop k (map numbered xs))
        → find (λ s. is_new (other_name s.says) names.threads) (map numbered xs) ≡ find (λ s. is_new (other_name s.says) names.threads) (drop (k + 1) (map numbered xs))
    next_none before = find_next (λ s. is_new (other_name s.says) names.threads) (map numbered xs) k (at_line (get_or xs k d).line (said (get_or xs k d).says)) here known.0 before
