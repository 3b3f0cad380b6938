-- Counting places.
use Rattle.std.proofs.Common.{◌≡◌, ℕ, ◌+◌, ◌<◌, [], ◌∷◌, ◌++◌, ◌⊎◌, inl, inr, refl, sym, ap, subst, ◌∙◌, length-append}
use Rattle.std.specs.Prelude.{Contains, ◌↔◌}
use Rattle.std.proofs.lemmas.List.Elements.{Contains-push, Contains-push_cases, Contains-append_left}
use Rattle.trace_laws.specs.Findings.{HasCount}
use Rattle.trace_laws.proofs.Places.{contains_none}
use Rattle.trace_laws.proofs.Enabling.{Rises-push}

-- properties that say the same have one count
pub count_under : (P Q : ℕ → Type 0) (n : ℕ) → ((p : ℕ) → P p ↔ Q p) → HasCount P n → HasCount Q n
count_under P Q n same h = record {
  places = h.places;
  order = h.order;
  members = λ p. (λ c. (same p).0 ((h.members p).0 c), λ q. (h.members p).1 ((same p).1 q));
  size = h.size;
}

-- what holds nowhere has the count 0
pub count_none : (P : ℕ → Type 0) → ((p : ℕ) → P p → ⊥) → HasCount P 0
count_none P none = record {
  places = [];
  order = λ a b i j less at_a at_b. cc;
  members = λ p. (λ c. absurd (contains_none p c), λ h. absurd (none p h));
  size = refl;
}

-- one place more, behind all others, has the property
pub count_more : (P Q : ℕ → Type 0) (x n : ℕ) → ((p : ℕ) → Q p ↔ (P p ⊎ (p ≡ x))) → ((p : ℕ) → P p → p < x) → HasCount P n → HasCount Q (n + 1)
count_more P Q x n grown behind h = record {
  places = h.places ++ x ∷ [];
  order = Rises-push h.places x h.order (λ i c. behind i ((h.members i).0 c));
  members = λ q. (λ c. forth q (Contains-push_cases h.places x q c), λ b. back q ((grown q).0 b));
  size = length-append h.places (x ∷ []) ∙ ap (λ k. k + 1) h.size;
}
  where
    forth : (q : ℕ) → Contains h.places q ⊎ (x ≡ q) → Q q
    forth q (inl c) = (grown q).1 (inl ((h.members q).0 c))
    forth q (inr same) = (grown q).1 (inr (sym same))

    back : (q : ℕ) → P q ⊎ (q ≡ x) → Contains (h.places ++ x ∷ []) q
    back q (inl b) = Contains-append_left h.places (x ∷ []) q ((h.members q).1 b)
    back q (inr same) = subst (λ (k : ℕ). Contains (h.places ++ x ∷ []) k) (sym same) (Contains-push h.places x)
