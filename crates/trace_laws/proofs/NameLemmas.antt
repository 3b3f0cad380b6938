-- What a set of byte strings says of the list of names.
use Rattle.std.proofs.Common.{◌≡◌, ℕ, Bool, true, false, cond, List, [], ◌∷◌, ◌++◌, Some, map, length, nat_eq, nat_lt, not, refl, sym, ap, ◌∙◌, ◌+◌, arith, ◌||◌, ◌<◌, length-append}
use Rattle.std.proofs.lemmas.List.{map-append, length-map}
use Rattle.std.proofs.lemmas.Option.{cond_some}
use Rattle.std.specs.List.{list_any, position_or_len, position, AllZip}
use Rattle.std.specs.Cmp.Lexicographic.{pointwise}
use Rattle.indexmap.specs.IndexSet.{insert_key}
use Rattle.trace_laws.specs.Names.{same_name, is_numbered, number_of, with_name}

-- a place that was found is the first
pub found_at : {X : Type 0} (test : X → Bool) (ks : List X) (n : ℕ) → Some n ≡ position test ks → n ≡ position_or_len test ks
found_at test ks n h = sym (cond_some (nat_lt (position_or_len test ks) (length ks)) (position_or_len test ks) n (sym h)).1

-- where no element passes the test, the first place is the end
pub none_at : {X : Type 0} (test : X → Bool) (ks : List X) → list_any test ks ≡ false → position_or_len test ks ≡ length ks
none_at test [] h = refl
none_at test (k ∷ ks) h =
    let P : Bool → Type 0 = λ b. (b || list_any test ks) ≡ false → cond (not b) (1 + position_or_len test ks) 0 ≡ length (k ∷ ks) in
    let by : (b : Bool) → P b = λ b. elim b as P [ true ↦ λ g. cc | false ↦ λ g. let rest = none_at test ks g in omega arith ] in
    by (test k) h

-- where one does, the first place is within
pub any_at : {X : Type 0} (test : X → Bool) (ks : List X) → list_any test ks ≡ true → position_or_len test ks < length ks
any_at test [] h = cc
any_at test (k ∷ ks) h =
    let P : Bool → Type 0 = λ b. (b || list_any test ks) ≡ true → cond (not b) (1 + position_or_len test ks) 0 < length (k ∷ ks) in
    let by : (b : Bool) → P b = λ b. elim b as P [ true ↦ λ g. omega arith | false ↦ λ g. let rest = any_at test ks g in omega arith ] in
    by (test k) h

-- the number of a name is below the count of the names with it
pub number_given : (names : List (List ℕ)) (name : List ℕ) → number_of names name < length (with_name names name)
number_given names name =
    let P : Bool → Type 0 = λ b. number_of names name < length (cond b names (names ++ name ∷ [])) in
    let by : (b : Bool) → is_numbered names name ≡ b → P b = λ b. elim b as (λ v. is_numbered names name ≡ v → P v) [
      | true ↦ λ h. any_at (same_name name) names h
      | false ↦ λ h. let here = none_at (same_name name) names h in omega (arith, length-append names (name ∷ []))
    ] in
    by (is_numbered names name) refl

-- names whose bytes are seen
module _ {V : Type 0} (bytes : V → List ℕ) where
  -- whether a name passes a test is seen in the bytes
  pub any_seen : (test : List ℕ → Bool) (ks : List V) → list_any test (map bytes ks) ≡ list_any (λ k. test (bytes k)) ks
  any_seen test [] = refl
  any_seen test (k ∷ ks) = ap (λ b. test (bytes k) || b) (any_seen test ks)

  -- and so is the first that does
  pub place_seen : (test : List ℕ → Bool) (ks : List V) → position_or_len test (map bytes ks) ≡ position_or_len (λ k. test (bytes k)) ks
  place_seen test [] = refl
  place_seen test (k ∷ ks) = ap (λ n. cond (not (test (bytes k))) (1 + n) 0) (place_seen test ks)

  -- clones that have the bytes of their sources are the same names
  pub cloned : (C : V → V → Type 0) → ((v w : V) → C v w → bytes w ≡ bytes v) → (ks ls : List V) → AllZip C ks ls → map bytes ls ≡ map bytes ks
  cloned C same [] [] h = refl
  cloned C same [] (l ∷ ls) h = absurd h
  cloned C same (k ∷ ks) [] h = absurd h
  cloned C same (k ∷ ks) (l ∷ ls) h = λ j. same k l h.0 j ∷ cloned C same ks ls h.1 j

  -- a set of names, seen as the list of their bytes
  module _ (ks : List V) (names : List (List ℕ)) (view : map bytes ks ≡ names) where
    -- whether the set has the name
    pub numbered : (name : List ℕ) (b : Bool) → b ≡ list_any (λ k. same_name name (bytes k)) ks → is_numbered names name ≡ b
    numbered name b found = sym (ap (λ ns. is_numbered ns name) view) ∙ any_seen (same_name name) ks ∙ sym found

    -- the number of a name that the set has
    pub number_found : (name : List ℕ) (n : ℕ) → Some n ≡ position (λ k. same_name name (bytes k)) ks → n ≡ number_of names name
    number_found name n at = found_at _ ks n at ∙ sym (place_seen (same_name name) ks) ∙ ap (λ ns. number_of ns name) view

    -- the number of a new name
    pub number_new : (name : List ℕ) → false ≡ list_any (λ k. same_name name (bytes k)) ks → length ks ≡ number_of names name
    number_new name none = sym (none_at _ ks (sym none)) ∙ sym (place_seen (same_name name) ks) ∙ ap (λ ns. number_of ns name) view

    -- how many names there are
    pub count : length ks ≡ length names
    count = sym (length-map ks bytes) ∙ ap length view

    -- the names with a new one
    pub inserted : (v : V) (more : List V) → false ≡ list_any (λ k. same_name (bytes v) (bytes k)) ks → more ≡ insert_key (λ x y. pointwise nat_eq (bytes x) (bytes y)) ks v
        → map bytes more ≡ with_name names (bytes v)
    inserted v more none keys =
        rw (keys, ← none, numbered (bytes v) false none) (map-append bytes ks (v ∷ []) ∙ ap (λ ns. ns ++ bytes v ∷ []) view)
