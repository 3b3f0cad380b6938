-- Tables whose entries are right.
use Rattle.std.proofs.Common.{◌≡◌, ◌≢◌, ℕ, ◌+◌, ◌<◌, List, [], ◌∷◌, ◌++◌, length, Option, Some, None, ◌⊎◌, inl, inr, refl, sym, ap, subst, ◌∙◌, arith, length-append}
use Rattle.std.specs.Prelude.{slice_get, slice_set, IfSome, IfNone}
use Rattle.std.proofs.lemmas.Bool.{cases_eq}
use Rattle.std.proofs.lemmas.Option.{slice_get_within}
use Rattle.trace_laws.proofs.Places.{three_way, slice_get-append_left, slice_get-append_seam}
use Rattle.trace_laws.proofs.Growing.{slice_get-set_same, slice_get-set_other}
use Rattle.closed_fronts.specs.Tables.{IsLatest, AreTold, IsAtMost}

-- one entry more is right
pub told_push : {A : Type 0} (P : ℕ → A → Type 0) (xs : List A) (x : A) → AreTold P xs → P (length xs) x → AreTold P (xs ++ x ∷ [])
told_push {A} P xs x told here p y at = go (three_way p (length xs))
  where
    go : (p < length xs) ⊎ ((p ≡ length xs) ⊎ (length xs < p)) → P p y
    go (inl less) = told p y (sym (slice_get-append_left xs (x ∷ []) p less) ∙ at)
    go (inr (inl same)) =
        let seam = slice_get-append_seam xs x in
        let there : slice_get (xs ++ x ∷ []) (length xs) ≡ Some y = subst (λ (k : ℕ). slice_get (xs ++ x ∷ []) k ≡ Some y) same at in
        let is : x ≡ y = cc in
        subst (λ (k : ℕ). P k y) (sym same) (subst (λ (z : A). P (length xs) z) is here)
    go (inr (inr more)) = let within = slice_get_within (xs ++ x ∷ []) p y at in let size = length-append xs (x ∷ []) in absurd (omega arith)

-- an entry that is set is right, where the others stay so
pub told_set : {A : Type 0} (P Q : ℕ → A → Type 0) (xs : List A) (k : ℕ) (x : A) → k < length xs → AreTold P xs → ((p : ℕ) (y : A) → p ≢ k → P p y → Q p y) → Q k x → AreTold Q (slice_set xs k x)
told_set {A} P Q xs k x within told others here p y at = go (cases_eq p k)
  where
    go : (p ≡ k) ⊎ (p ≢ k) → Q p y
    go (inl same) =
        let now : slice_get (slice_set xs k x) k ≡ Some x = slice_get-set_same xs k x within in
        let there : slice_get (slice_set xs k x) k ≡ Some y = subst (λ (i : ℕ). slice_get (slice_set xs k x) i ≡ Some y) same at in
        let is : x ≡ y = cc in
        subst (λ (i : ℕ). Q i y) (sym same) (subst (λ (z : A). Q k z) is here)
    go (inr other) = others p y other (told p y (sym (slice_get-set_other xs k p x other) ∙ at))

-- what has the property is at most the latest
pub latest_at_most : (P : ℕ → Type 0) (o : Option ℕ) → IsLatest P o → (x : ℕ) → P x → IsAtMost x o
latest_at_most P None none x h = none x h
latest_at_most P (Some b) latest x h = latest.1 x h

-- the latest has the property
pub latest_has : (P : ℕ → Type 0) (o : Option ℕ) (b : ℕ) → IsLatest P o → o ≡ Some b → P b
latest_has P None b latest is = cc
latest_has P (Some a) b latest is = let same : a ≡ b = cc in subst P same latest.0

-- properties that say the same have one latest place
pub latest_under : (P Q : ℕ → Type 0) (o : Option ℕ) → ((x : ℕ) → P x → Q x) → ((x : ℕ) → Q x → P x) → IsLatest P o → IsLatest Q o
latest_under P Q None to from none = λ x h. none x (from x h)
latest_under P Q (Some b) to from latest = (to b latest.0, λ x h. latest.1 x (from x h))

-- what holds of a given value holds of the option
pub some_if : {A : Type 0} (P : A → Type 0) (o : Option A) → ((x : A) → o ≡ Some x → P x) → IfSome o P
some_if P None h = tt
some_if P (Some x) h = h x refl

-- and conversely
pub if_some_at : {A : Type 0} (P : A → Type 0) (o : Option A) (x : A) → IfSome o P → o ≡ Some x → P x
if_some_at P None x h is = cc
if_some_at P (Some y) x h is = let same : y ≡ x = cc in subst P same h

-- the same for a table that got an entry
pub told_one : {A : Type 0} (P : ℕ → A → Type 0) (xs ys : List A) (x : A) (n : ℕ) → ys ≡ xs ++ x ∷ [] → length xs ≡ n → AreTold P xs → P n x → AreTold P ys
told_one {A} P xs ys x n is size told here = subst (λ (zs : List A). AreTold P zs) (sym is) (told_push P xs x told (subst (λ (k : ℕ). P k x) (sym size) here))

-- which is longer by one
pub size_one : {A : Type 0} (xs ys : List A) (x : A) (n : ℕ) → ys ≡ xs ++ x ∷ [] → length xs ≡ n → length ys ≡ n + 1
size_one {A} xs ys x n is size = ap (λ (zs : List A). length zs) is ∙ length-append xs (x ∷ []) ∙ ap (λ (k : ℕ). k + 1) size

-- what holds where nothing is given
pub none_if : {A : Type 0} (P : Type 0) (o : Option A) → (o ≡ None → P) → IfNone o P
none_if P None h = h refl
none_if P (Some x) h = tt

-- and conversely
pub if_none_at : {A : Type 0} (P : Type 0) (o : Option A) → IfNone o P → o ≡ None → P
if_none_at P None h is = h
if_none_at P (Some x) h is = cc
