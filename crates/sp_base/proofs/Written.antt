-- A loop of writes.
use Rattle.std.proofs.Common.{◌≡◌, ℕ, List, ◌++◌, [], take, drop, sym, ap, ◌∙◌, refl, append_assoc, ◌≤◌, arith}
use Rattle.std.specs.declared.option.Option.{Option}
use Rattle.std.proofs.lemmas.List.{take-append-drop}
use Rattle.std.specs.Io.KnownBytes.{Appends}
use Rattle.std.proofs.KnownBytes.{Appends-trans, Appends-nil}

-- what was written of all, and what is left
pub record Written (old now : Option (List ℕ)) (before after : ℕ) (all rest : List ℕ) : Type 0 where
  pub text : List ℕ
  pub appends : Appends old now text
  pub whole : all ≡ text ++ rest
  pub later : before ≤ after

-- before the first write
pub nothing : (old : Option (List ℕ)) (all : List ℕ) (n : ℕ) → Written old old n n all all
nothing old all n = record { text = []; appends = Appends-nil old; whole = refl; later = omega arith }

-- one write more
pub onward : (old now new : Option (List ℕ)) (before mid after count : ℕ) (all rest : List ℕ) → Written old now before mid all rest → Appends now new (take count rest) → mid ≤ after
    → Written old new before after all (drop count rest)
onward old now new before mid after count all rest w more later = record {
  text = w.text ++ take count rest;
  appends = Appends-trans old now new w.text (take count rest) w.appends more;
  whole = w.whole ∙ ap (λ l. w.text ++ l) (sym (take-append-drop count rest)) ∙ sym (append_assoc w.text (take count rest) (drop count rest));
  later = omega (arith, w.later, later);
}
