-- Keys that a set has, and those that come into it.
use Rattle.std.proofs.Common.{◌≡◌, ℕ, Bool, true, false, cond, not, List, [], ◌∷◌, ◌++◌, Some, eqb, ◌&&◌, refl, sym, ap, ◌∙◌}
use Rattle.std.specs.Prelude.{slice_get}
use Rattle.std.specs.List.{list_any}
use Rattle.std.proofs.lemmas.Bool.{eqb-true, eq-eqb, and_parts, and_from}
use Rattle.std.proofs.lemmas.Map.Keys.{any_passes_from_place}
use Rattle.indexmap.specs.IndexSet.{insert_key}
use Rattle.lock_graph.specs.declared.entry.Key.{Key}
use Rattle.lock_graph.specs.contracts.entry.KeyPartialEq.TheImpl.{ghosts}

-- keys that are tested as equal are equal
key_same : (a b : Key) → ghosts.eq a b ≡ true → a ≡ b
key_same a b passes =
    let first = and_parts (eqb a.thread b.thread) (eqb a.lock b.lock && eqb a.alike b.alike) passes in
    let second = and_parts (eqb a.lock b.lock) (eqb a.alike b.alike) first.1 in
    let thread : a.thread ≡ b.thread = eqb-true a.thread b.thread first.0 in
    let lock : a.lock ≡ b.lock = eqb-true a.lock b.lock second.0 in
    let alike : a.alike ≡ b.alike = eqb-true a.alike b.alike second.1 in
    λ j. record { thread = thread j; lock = lock j; alike = alike j }

-- and a key is tested as equal to itself
key_self : (a : Key) → ghosts.eq a a ≡ true
key_self a = and_from (eqb a.thread a.thread) (eqb a.lock a.lock && eqb a.alike a.alike) (eq-eqb a.thread a.thread refl) (and_from (eqb a.lock a.lock) (eqb a.alike a.alike) (eq-eqb a.lock a.lock refl) (eq-eqb a.alike a.alike refl))

-- a set of keys, into which a key was put
module _ (keys more : List Key) (key : Key) (new : Bool) (added : new ≡ not (list_any (ghosts.eq key) keys)) (are : more ≡ insert_key ghosts.eq keys key) where
  -- one that it had
  pub keys_stay : new ≡ false → more ≡ keys
  keys_stay old = are ∙ ap (λ (b : Bool). cond b keys (keys ++ key ∷ [])) (go (list_any (ghosts.eq key) keys) (sym added ∙ old))
    where
      go : (b : Bool) → not b ≡ false → b ≡ true
      go true h = refl
      go false h = cc

  -- it was nowhere if it is new
  none : new ≡ true → list_any (ghosts.eq key) keys ≡ false
  none is = go (list_any (ghosts.eq key) keys) (sym added ∙ is)
    where
      go : (b : Bool) → not b ≡ true → b ≡ false
      go true h = cc
      go false h = refl

  -- and comes last
  pub keys_grow : new ≡ true → more ≡ keys ++ key ∷ []
  keys_grow is = are ∙ ap (λ (b : Bool). cond b keys (keys ++ key ∷ [])) (none is)

  -- a new one was nowhere
  pub key_nowhere : new ≡ true → (i : ℕ) → slice_get keys i ≡ Some key → ⊥
  key_nowhere is i at = let some = any_passes_from_place (ghosts.eq key) keys i key at (key_self key) in let fails = none is in cc

  -- where one is that is tested as equal, it is
  pub key_there : (i : ℕ) (k : Key) → slice_get more i ≡ Some k → ghosts.eq key k ≡ true → slice_get more i ≡ Some key
  key_there i k at passes = at ∙ ap Some (sym (key_same key k passes))
