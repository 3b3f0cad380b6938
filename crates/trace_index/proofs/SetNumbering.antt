-- Numbering distinct sets of locks.
use Rattle.std.proofs.Common.{◌≡◌, ℕ, ◌<◌, Bool, true, false, cond, List, [], ◌∷◌, ◌++◌, length, get_or, map, Some, nat_eq, ◌⊎◌, inl, inr, refl, sym, ap, subst, ◌∙◌, arith, length-append}
use Rattle.std.specs.Prelude.{slice_get}
use Rattle.std.proofs.lemmas.Option.{slice_get_within, slice_get-get_or}
use Rattle.std.proofs.lemmas.Slice.Eq.{bytes_eq-Decides}
use Rattle.std.proofs.lemmas.List.Sums.{passes_at_first}
use Rattle.std.proofs.lemmas.Map.Keys.{any_passes_from_place}
use Rattle.std.specs.List.{list_any, position}
use Rattle.std.specs.Cmp.Lexicographic.{pointwise}
use Rattle.indexmap.specs.IndexSet.{insert_key}
use Rattle.trace_laws.specs.Names.{same_name, is_numbered, number_of, with_name}
use Rattle.trace_laws.proofs.NameLemmas.{any_at, numbered, number_found, inserted}
use Rattle.trace_laws.proofs.Places.{three_way, slice_get-append_left, slice_get-append_seam}
use Rattle.trace_index.specs.HeldSets.{AreAllDistinct, KeepNumbers}

-- a set that has a number stands at it
pub stands_at : (sets : List (List ℕ)) (set : List ℕ) → is_numbered sets set ≡ true → slice_get sets (number_of sets set) ≡ Some set
stands_at sets set numbered =
    let within = any_at (same_name set) sets numbered in
    let passes = passes_at_first (same_name set) sets [] within in
    slice_get-get_or sets (number_of sets set) [] within ∙ ap Some (sym ((bytes_eq-Decides set (get_or sets (number_of sets set) [])).0 passes))

-- a set without a number stands nowhere
pub stands_nowhere : (sets : List (List ℕ)) (set : List ℕ) → is_numbered sets set ≡ false → (k : ℕ) → slice_get sets k ≡ Some set → ⊥
stands_nowhere sets set none k at = let some = any_passes_from_place (same_name set) sets k set at ((bytes_eq-Decides set set).1 refl) in cc

-- a new set comes last
pub comes_last : (sets : List (List ℕ)) (set : List ℕ) → is_numbered sets set ≡ false → with_name sets set ≡ sets ++ set ∷ []
comes_last sets set none = ap (λ (b : Bool). cond b sets (sets ++ set ∷ [])) none

-- what stands in a list with one more element
pub push_cases : {X : Type 0} (xs : List X) (y x : X) (k : ℕ) → slice_get (xs ++ y ∷ []) k ≡ Some x → (slice_get xs k ≡ Some x) ⊎ ((k ≡ length xs) × (y ≡ x))
push_cases {X} xs y x k at = go (three_way k (length xs))
  where
    go : (k < length xs) ⊎ ((k ≡ length xs) ⊎ (length xs < k)) → (slice_get xs k ≡ Some x) ⊎ ((k ≡ length xs) × (y ≡ x))
    go (inl less) = inl (sym (slice_get-append_left xs (y ∷ []) k less) ∙ at)
    go (inr (inl same)) = inr (same, (let seam : slice_get (xs ++ y ∷ []) k ≡ Some y = ap (slice_get (xs ++ y ∷ [])) same ∙ slice_get-append_seam xs y in cc))
    go (inr (inr more)) = let within = slice_get_within (xs ++ y ∷ []) k x at in absurd (omega (arith, length-append xs (y ∷ [])))

-- all sets keep their numbers where one more comes
pub kept_push : (sets : List (List ℕ)) (set : List ℕ) → KeepNumbers sets (sets ++ set ∷ [])
kept_push sets set k s at = slice_get-append_left sets (set ∷ []) k (slice_get_within sets k s at) ∙ at

-- distinct sets and a new one are distinct
pub distinct_push : (sets : List (List ℕ)) (set : List ℕ) → AreAllDistinct sets → ((k : ℕ) → slice_get sets k ≡ Some set → ⊥) → AreAllDistinct (sets ++ set ∷ [])
distinct_push sets set distinct nowhere a b s at_a at_b = go (push_cases sets set s a at_a) (push_cases sets set s b at_b)
  where
    go : (slice_get sets a ≡ Some s) ⊎ ((a ≡ length sets) × (set ≡ s)) → (slice_get sets b ≡ Some s) ⊎ ((b ≡ length sets) × (set ≡ s)) → a ≡ b
    go (inl x) (inl y) = distinct a b s x y
    go (inl x) (inr y) = absurd (nowhere a (x ∙ ap Some (sym y.1)))
    go (inr x) (inl y) = absurd (nowhere b (y ∙ ap Some (sym x.1)))
    go (inr x) (inr y) = x.0 ∙ sym y.0

-- a table of sets whose locks are seen
module _ {V : Type 0} (locks : V → List ℕ) (keys : List V) (sets : List (List ℕ)) (view : map locks keys ≡ sets) (set : List ℕ) where
  -- a set that was found stands at its number
  pub set_found : (n : ℕ) → true ≡ list_any (λ k. same_name set (locks k)) keys → Some n ≡ position (λ k. same_name set (locks k)) keys → slice_get sets n ≡ Some set
  set_found n found at =
      let is : n ≡ number_of sets set = number_found locks keys sets view set n at in
      rw is (stands_at sets set (numbered locks keys sets view set true found))

  -- a set that was not found stands nowhere
  pub set_nowhere : false ≡ list_any (λ k. same_name set (locks k)) keys → (k : ℕ) → slice_get sets k ≡ Some set → ⊥
  set_nowhere none = stands_nowhere sets set (numbered locks keys sets view set false none)

  -- and comes last where it is put in
  pub set_last : (v : V) (more : List V) → locks v ≡ set → false ≡ list_any (λ k. same_name set (locks k)) keys → more ≡ insert_key (λ x y. pointwise nat_eq (locks x) (locks y)) keys v → map locks more ≡ sets ++ set ∷ []
  set_last v more is none keys_are =
      let none_v : false ≡ list_any (λ k. same_name (locks v) (locks k)) keys = subst (λ (s : List ℕ). false ≡ list_any (λ k. same_name s (locks k)) keys) (sym is) none in
      inserted locks keys sets view v more none_v keys_are ∙ ap (with_name sets) is ∙ comes_last sets set (numbered locks keys sets view set false none)
