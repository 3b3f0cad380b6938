-- Tables that were filled with one value.
use Rattle.std.proofs.Common.{◌≡◌, ℕ, List, replicate, Option, Some, None, refl, sym, ap, ◌∙◌}
use Rattle.std.specs.Prelude.{slice_get, slice_index, unwrap_or}
use Rattle.std.proofs.lemmas.Option.{unwrap_or-slice_get}
use Rattle.trace_laws.proofs.Tables.{slice_get-replicate_only}

-- each entry is empty
pub all_none : (xs : List (Option ℕ)) (n : ℕ) → xs ≡ replicate n None → (t : ℕ) (o : Option ℕ) → slice_get xs t ≡ Some o → o ≡ None
all_none xs n is t o at = slice_get-replicate_only n None o t (ap (λ (k : List (Option ℕ)). slice_get k t) (sym is) ∙ at)

-- each number is zero
pub all_zero : (xs : List ℕ) (n : ℕ) → xs ≡ replicate {A = ℕ} n 0 → (t : ℕ) → slice_index xs t ≡ 0
all_zero xs n is t = sym (unwrap_or-slice_get xs t 0) ∙ go (slice_get xs t) refl
  where
    go : (o : Option ℕ) → slice_get xs t ≡ o → unwrap_or o 0 ≡ 0
    go None at = refl
    go (Some y) at = slice_get-replicate_only {X = ℕ} n 0 y t (ap (λ (k : List ℕ). slice_get k t) (sym is) ∙ at)
