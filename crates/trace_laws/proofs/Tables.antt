-- Lemmas on the tables of a builder.
use Rattle.std.proofs.Common.{◌≡◌, ◌≢◌, ℕ, zero, suc, ◌<◌, Bool, true, false, List, [], length, get_or, Option, Some, None, ◌⊎◌, inl, inr, refl, sym, ap, subst, ◌∙◌, eqb}
use Rattle.std.specs.Prelude.{slice_get, IsTrue, ◌↔◌, replicate}
use Rattle.std.proofs.lemmas.Bool.Decides.{eqb_tells}
use Rattle.std.proofs.lemmas.Option.{slice_get_read}
use Rattle.std.proofs.lemmas.List.{length-replicate}
use Rattle.sp_base.specs.declared.limits.TheConstants.{MAX_LOCKS, MAX_THREADS}
use Rattle.trace_laws.specs.Event.{Event}
use Rattle.trace_laws.specs.Trace.{Lawful}
use Rattle.trace_laws.specs.Building.{Tracks}

-- a flag that was read
pub flag_tells : (flags : List Bool) (P : Type 0) (u v : ℕ) (r : Bool) → v ≡ u → v < length flags → r ≡ get_or flags v r → ((slice_get flags u ≡ Some true) ↔ P) → IsTrue r ↔ P
flag_tells flags P u v r same within read tells = (only, if)
  where
    at_u : slice_get flags u ≡ Some r
    at_u = let at_v : slice_get flags v ≡ Some r = slice_get_read flags (length flags) v r refl within read in cc

    only : IsTrue r → P
    only h = let here = at_u in tells.0 cc

    if : P → IsTrue r
    if p = let here = at_u in let set_there = tells.1 p in cc

-- an owner that was read
pub owner_tells : (owners : List (Option ℕ)) (P : ℕ → Type 0) (l v : ℕ) (r : Option ℕ) → v ≡ l → v < length owners → r ≡ get_or owners v r → ((t : ℕ) → (slice_get owners l ≡ Some (Some t)) ↔ P t) → (t : ℕ) → (r ≡ Some t) ↔ P t
owner_tells owners P l v r same within read tells t = (only, if)
  where
    at_l : slice_get owners l ≡ Some r
    at_l = let at_v : slice_get owners v ≡ Some r = slice_get_read owners (length owners) v r refl within read in cc

    only : r ≡ Some t → P t
    only h = let here = at_l in (tells t).0 cc

    if : P t → r ≡ Some t
    if p = let here = at_l in let set_there = (tells t).1 p in cc

-- what stands in a list of one value
pub slice_get-replicate_only : {X : Type 0} (n : ℕ) (x y : X) (k : ℕ) → slice_get (replicate n x) k ≡ Some y → y ≡ x
slice_get-replicate_only zero x y k e = cc
slice_get-replicate_only (suc n) x y zero e = cc
slice_get-replicate_only (suc n) x y (suc k) e = slice_get-replicate_only n x y k e

-- tables of nothing track the empty trace
pub Tracks-empty : (owners : List (Option ℕ)) (joined forked started : List Bool) (m n : ℕ) → m ≡ MAX_LOCKS → n ≡ MAX_THREADS → owners ≡ replicate m None → joined ≡ replicate n false → forked ≡ replicate n false → started ≡ replicate n false → Tracks [] owners joined forked started
Tracks-empty owners joined forked started m n locks threads is_o is_j is_f is_s = record {
  locks = ap length is_o ∙ length-replicate m None ∙ locks;
  joined_threads = ap length is_j ∙ length-replicate n false ∙ threads;
  forked_threads = ap length is_f ∙ length-replicate n false ∙ threads;
  started_threads = ap length is_s ∙ length-replicate n false ∙ threads;
  owner = λ l t within. (no_owner l t, λ held. let own = held.acquired.thread in cc);
  joins = λ u within. (no_flag joined is_j u, λ h. let e = h.2 in cc);
  forks = λ u within. (no_flag forked is_f u, λ h. let e = h.2 in cc);
  starts = λ u within. (no_flag started is_s u, λ h. let e = h.2 in cc);
}
  where
    no_owner : {P : Type 0} (l t : ℕ) → slice_get owners l ≡ Some (Some t) → P
    no_owner l t e =
        let none : Some t ≡ None = slice_get-replicate_only m None (Some t) l (subst (λ (xs : List (Option ℕ)). slice_get xs l ≡ Some (Some t)) is_o e) in cc

    no_flag : {P : Type 0} (flags : List Bool) → flags ≡ replicate n false → (u : ℕ) → slice_get flags u ≡ Some true → P
    no_flag flags is_flags u e =
        let none : true ≡ false = slice_get-replicate_only n false true u (subst (λ (xs : List Bool). slice_get xs u ≡ Some true) is_flags e) in cc

-- numbers whose test is false differ
pub apart_from_test : (a b : ℕ) → eqb a b ≡ false → a ≡ b → ⊥
apart_from_test a b h e = go (eqb_tells a b)
  where
    go : ((eqb a b ≡ true) × (a ≡ b)) ⊎ ((eqb a b ≡ false) × (a ≢ b)) → ⊥
    go (inl x) = let yes : eqb a b ≡ true = x.0 in cc
    go (inr x) = x.1 e

-- a trace without events is lawful
pub Lawful-nil : Lawful []
Lawful-nil = λ j e h. cc

-- the same tables, under equal lists
pub Tracks-same : (trace trace' : List Event) (owners owners' : List (Option ℕ)) (joined joined' forked forked' started started' : List Bool) → trace' ≡ trace → owners' ≡ owners → joined' ≡ joined → forked' ≡ forked → started' ≡ started → Tracks trace owners joined forked started → Tracks trace' owners' joined' forked' started'
Tracks-same trace trace' owners owners' joined joined' forked forked' started started' e1 e2 e3 e4 e5 h =
    subst (λ (x : List Event). Tracks x owners' joined' forked' started') (sym e1)
    (subst (λ (x : List (Option ℕ)). Tracks trace x joined' forked' started') (sym e2)
    (subst (λ (x : List Bool). Tracks trace owners x forked' started') (sym e3)
    (subst (λ (x : List Bool). Tracks trace owners joined x started') (sym e4)
    (subst (λ (x : List Bool). Tracks trace owners joined forked x) (sym e5) h))))
