-- Borders that rise.
use Rattle.std.proofs.Common.{◌≡◌, ℕ, ◌+◌, ◌-◌, ◌<◌, ◌≤◌, List, [], ◌∷◌, ◌++◌, length, Some, ◌⊎◌, inl, inr, refl, sym, ap, subst, ◌∙◌, arith, length-append}
use Rattle.std.specs.Prelude.{slice_get}
use Rattle.std.proofs.lemmas.Option.{slice_get_within}
use Rattle.trace_laws.proofs.Places.{three_way, slice_get-append_left, slice_get-append_seam}
use Rattle.predictor.specs.Borders.{border, Rise, EndAt, MayEndWith, VariablesComeFirst}
use Rattle.predictor.specs.declared.cut.Border.{Border}

-- borders that are at most two numbers are at most greater ones
pub rise_later : (variable pattern later next : ℕ) (borders : List Border) → variable ≤ later → pattern ≤ next → Rise variable pattern borders → Rise later next borders
rise_later variable pattern later next borders le_variable le_pattern rise = record {
  first = rise.first;
  order = rise.order;
  within = λ n b at. let old = rise.within n b at in (let v = old.0 in omega arith, let p = old.1 in omega arith);
}

-- one border more
pub rise_more : (variable pattern later next : ℕ) (borders : List Border) → variable ≤ later → pattern ≤ next → Rise variable pattern borders → Rise later next (borders ++ border later next ∷ [])
rise_more variable pattern later next borders le_variable le_pattern rise = record {
  first = slice_get-append_left borders (border later next ∷ []) 0 (slice_get_within borders 0 (border 0 0) rise.first) ∙ rise.first;
  order = λ n a b at_a at_b. order n a b at_a at_b (three_way (n + 1) (length borders));
  within = λ n b at. within n b at (three_way n (length borders));
}
  where
    all : List Border
    all = borders ++ border later next ∷ []

    long : length all ≡ length borders + 1
    long = length-append borders (border later next ∷ [])

    left : (n : ℕ) (b : Border) → n < length borders → slice_get all n ≡ Some b → slice_get borders n ≡ Some b
    left n b less at = sym (slice_get-append_left borders (border later next ∷ []) n less) ∙ at

    last : (n : ℕ) (b : Border) → n ≡ length borders → slice_get all n ≡ Some b → border later next ≡ b
    last n b same at =
        let there : slice_get all (length borders) ≡ Some b = subst (λ (k : ℕ). slice_get all k ≡ Some b) same at in
        let here = slice_get-append_seam borders (border later next) in
        cc

    order : (n : ℕ) (a b : Border) → slice_get all n ≡ Some a → slice_get all (n + 1) ≡ Some b → (n + 1 < length borders) ⊎ ((n + 1 ≡ length borders) ⊎ (length borders < n + 1)) → a.pattern ≤ b.pattern
    order n a b at_a at_b (inl less) = rise.order n a b (left n a (omega arith) at_a) (left (n + 1) b less at_b)
    order n a b at_a at_b (inr (inl same)) =
        let old = (rise.within n a (left n a (omega arith) at_a)).1 in
        subst (λ (c : Border). a.pattern ≤ c.pattern) (last (n + 1) b same at_b) (omega arith)
    order n a b at_a at_b (inr (inr more)) = let within = slice_get_within all (n + 1) b at_b in let size = long in absurd (omega arith)

    within : (n : ℕ) (b : Border) → slice_get all n ≡ Some b → (n < length borders) ⊎ ((n ≡ length borders) ⊎ (length borders < n)) → (b.variable ≤ later) × (b.pattern ≤ next)
    within n b at (inl less) = let old = rise.within n b (left n b less at) in (let v = old.0 in omega arith, let p = old.1 in omega arith)
    within n b at (inr (inl same)) = subst (λ (c : Border). (c.variable ≤ later) × (c.pattern ≤ next)) (last n b same at) (omega arith, omega arith)
    within n b at (inr (inr more)) = let inside = slice_get_within all n b at in let size = long in absurd (omega arith)

-- the last border is the one that was added last
pub end_more : (variable pattern : ℕ) (borders : List Border) → EndAt variable pattern (borders ++ border variable pattern ∷ [])
end_more variable pattern borders =
    let long = length-append borders (border variable pattern ∷ []) in
    let one : length (border variable pattern ∷ []) ≡ 1 = refl in
    let here : length borders ≡ length (borders ++ border variable pattern ∷ []) - 1 = omega arith in
    subst (λ (k : ℕ). slice_get (borders ++ border variable pattern ∷ []) k ≡ Some (border variable pattern)) here (slice_get-append_seam borders (border variable pattern))

-- a border more or none, before later ones
pub rise_maybe : (variable pattern later next : ℕ) (old new : List Border) → variable ≤ later → pattern ≤ next → MayEndWith (border variable pattern) old new → Rise variable pattern old → Rise later next new
rise_maybe variable pattern later next old new le_variable le_pattern (inl same) rise = subst (Rise later next) (sym same) (rise_later variable pattern later next old le_variable le_pattern rise)
rise_maybe variable pattern later next old new le_variable le_pattern (inr more) rise =
    subst (Rise later next) (sym more) (rise_later variable pattern later next (old ++ border variable pattern ∷ []) le_variable le_pattern (rise_more variable pattern variable pattern old (omega arith) (omega arith) rise))

-- where the jobs so far have all variables and no pattern
pub sorts_first : (variables : ℕ) (borders : List Border) → 1 ≤ length borders → Rise variables 0 borders → EndAt variables 0 borders → VariablesComeFirst variables (length borders - 1) borders
sorts_first variables borders some rise end = record {
  within = omega arith;
  no_pattern = λ n b le at. let most = (rise.within n b at).1 in omega arith;
  no_variable = λ n b least at.
      let within = slice_get_within borders n b at in
      let here : n ≡ length borders - 1 = omega arith in
      let there : slice_get borders (length borders - 1) ≡ Some b = subst (λ (k : ℕ). slice_get borders k ≡ Some b) here at in
      let last : slice_get borders (length borders - 1) ≡ Some (border variables 0) = end in
      let is : border variables 0 ≡ b = cc in
      ap (λ (c : Border). c.variable) (sym is);
}

-- one border more behind all variables
pub sorts_more : (variables first pattern : ℕ) (borders : List Border) → VariablesComeFirst variables first borders → VariablesComeFirst variables first (borders ++ border variables pattern ∷ [])
sorts_more variables first pattern borders sorts = record {
  within = let within = sorts.within in let size = long in omega arith;
  no_pattern = λ n b le at. let within = sorts.within in sorts.no_pattern n b le (left n b (omega arith) at);
  no_variable = λ n b least at. go n b least at (three_way n (length borders));
}
  where
    all : List Border
    all = borders ++ border variables pattern ∷ []

    long : length all ≡ length borders + 1
    long = length-append borders (border variables pattern ∷ [])

    left : (n : ℕ) (b : Border) → n < length borders → slice_get all n ≡ Some b → slice_get borders n ≡ Some b
    left n b less at = sym (slice_get-append_left borders (border variables pattern ∷ []) n less) ∙ at

    go : (n : ℕ) (b : Border) → first ≤ n → slice_get all n ≡ Some b → (n < length borders) ⊎ ((n ≡ length borders) ⊎ (length borders < n)) → b.variable ≡ variables
    go n b least at (inl less) = sorts.no_variable n b least (left n b less at)
    go n b least at (inr (inl same)) =
        let there : slice_get all (length borders) ≡ Some b = subst (λ (k : ℕ). slice_get all k ≡ Some b) same at in
        let here = slice_get-append_seam borders (border variables pattern) in
        let is : border variables pattern ≡ b = cc in
        ap (λ (c : Border). c.variable) (sym is)
    go n b least at (inr (inr more)) = let inside = slice_get_within all n b at in let size = long in absurd (omega arith)

-- a border more behind all variables, or none
pub sorts_maybe : (variables first pattern : ℕ) (old new : List Border) → MayEndWith (border variables pattern) old new → VariablesComeFirst variables first old → VariablesComeFirst variables first new
sorts_maybe variables first pattern old new (inl same) sorts = subst (VariablesComeFirst variables first) (sym same) sorts
sorts_maybe variables first pattern old new (inr more) sorts = subst (VariablesComeFirst variables first) (sym more) (sorts_more variables first pattern old sorts)
