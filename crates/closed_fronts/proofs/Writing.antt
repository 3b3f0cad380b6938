-- Noting the writers of reads.
use Rattle.std.proofs.Common.{◌≡◌, ◌≢◌, ℕ, ◌+◌, ◌<◌, List, length, replicate, Option, Some, None, ◌⊎◌, inl, inr, sym, ap, subst, ◌∙◌, arith}
use Rattle.std.specs.Prelude.{◌↔◌, slice_get, slice_set}
use Rattle.std.proofs.Math.ListN.{length-set}
use Rattle.std.proofs.lemmas.Bool.{cases_eq}
use Rattle.std.proofs.lemmas.List.{length-replicate}
use Rattle.sp_base.specs.declared.limits.TheConstants.{MAX_VARS}
use Rattle.trace_laws.specs.Event.{Event}
use Rattle.trace_laws.specs.declared.event.Op.TheVariants.{Read, Write}
use Rattle.trace_laws.specs.Trace.{op_at, Reads, Writes, IsLastWrite, IsWriter}
use Rattle.trace_laws.proofs.Growing.{slice_get-set_same, slice_get-set_other}
use Rattle.trace_laws.proofs.Places.{three_way}
use Rattle.closed_fronts.proofs.Filled.{all_none}
use Rattle.closed_fronts.specs.Writers.{AreWriters}
use Rattle.closed_fronts.specs.Needs.{IsWriterOfRead}

-- no place
abbrev nothing : Option ℕ
nothing = None

-- before the first place nothing is written
pub writers_none : (events : List Event) (last writers : List (Option ℕ)) (n : ℕ) → last ≡ replicate MAX_VARS None → writers ≡ replicate n None → n ≡ length events → AreWriters events 0 last writers
writers_none events last writers n is_last is_writers size = record {
  variables = ap length is_last ∙ length-replicate {A = Option ℕ} MAX_VARS None;
  places = ap length is_writers ∙ length-replicate {A = Option ℕ} n None ∙ size;
  lasts = λ x o at. subst (λ (k : Option ℕ). IsWriter events ◌<◌ 0 x k) (sym (all_none last MAX_VARS is_last x o at)) (λ v writes before. omega arith);
  written = λ r x o less reads at. absurd (omega arith);
}

-- where a place does not write the variable, its last write stays
writer_stays : (events : List Event) (p x : ℕ) (o : Option ℕ) → (Writes events p x → ⊥) → IsWriter events ◌<◌ p x o → IsWriter events ◌<◌ (p + 1) x o
writer_stays events p x (Some w) none last = let before = last.before in record { writes = last.writes; before = omega arith; last = λ v writes after until. go v writes after until (cases_eq v p) }
  where
    go : (v : ℕ) → Writes events v x → w < v → v < p + 1 → (v ≡ p) ⊎ (v ≢ p) → ⊥
    go v writes after until (inl same) = none (subst (λ (k : ℕ). Writes events k x) same writes)
    go v writes after until (inr other) = last.last v writes after (omega (arith, other))
writer_stays events p x None none last = λ v writes until. go v writes until (cases_eq v p)
  where
    go : (v : ℕ) → Writes events v x → v < p + 1 → (v ≡ p) ⊎ (v ≢ p) → ⊥
    go v writes until (inl same) = none (subst (λ (k : ℕ). Writes events k x) same writes)
    go v writes until (inr other) = last v writes (omega (arith, other))

-- the writers of the places before place p
module _ (events : List Event) (p : ℕ) (last writers : List (Option ℕ)) (old : AreWriters events p last writers) where
  -- a place that neither reads nor writes changes nothing
  pub noted_other : ((x : ℕ) → Writes events p x → ⊥) → ((x : ℕ) → Reads events p x → ⊥) → AreWriters events (p + 1) last writers
  noted_other no_write no_read = record {
    variables = old.variables;
    places = old.places;
    lasts = λ x o at. writer_stays events p x o (no_write x) (old.lasts x o at);
    written = λ r x o less reads at. go r x o less reads at (cases_eq r p);
  }
    where
      go : (r x : ℕ) (o : Option ℕ) → r < p + 1 → Reads events r x → slice_get writers r ≡ Some o → (r ≡ p) ⊎ (r ≢ p) → IsWriter events ◌<◌ r x o
      go r x o less reads at (inl same) = absurd (no_read x (subst (λ (k : ℕ). Reads events k x) same reads))
      go r x o less reads at (inr other) = old.written r x o (omega (arith, other)) reads at

  -- a write becomes the last of its variable
  pub noted_write : (y : ℕ) → op_at events p ≡ Some (Write y) → y < length last → AreWriters events (p + 1) (slice_set last y (Some p)) writers
  noted_write y op within = record {
    variables = length-set last y (Some p) ∙ old.variables;
    places = old.places;
    lasts = λ x o at. lasts x o at (cases_eq x y);
    written = λ r x o less reads at. written r x o less reads at (cases_eq r p);
  }
    where
      lasts : (x : ℕ) (o : Option ℕ) → slice_get (slice_set last y (Some p)) x ≡ Some o → (x ≡ y) ⊎ (x ≢ y) → IsWriter events ◌<◌ (p + 1) x o
      lasts x o at (inl same) =
          let now : slice_get (slice_set last y (Some p)) y ≡ Some (Some p) = slice_get-set_same last y (Some p) within in
          let there : slice_get (slice_set last y (Some p)) y ≡ Some o = subst (λ (k : ℕ). slice_get (slice_set last y (Some p)) k ≡ Some o) same at in
          let is : Some p ≡ o = cc in
          subst (λ (k : Option ℕ). IsWriter events ◌<◌ (p + 1) x k) is (record { writes = subst (λ (k : ℕ). Writes events p k) (sym same) op; before = omega arith; last = λ v writes after until. omega arith })
      lasts x o at (inr other) = writer_stays events p x o (λ writes. other (let is = op in let same : x ≡ y = cc in same)) (old.lasts x o (sym (slice_get-set_other last y x (Some p) other) ∙ at))

      written : (r x : ℕ) (o : Option ℕ) → r < p + 1 → Reads events r x → slice_get writers r ≡ Some o → (r ≡ p) ⊎ (r ≢ p) → IsWriter events ◌<◌ r x o
      written r x o less reads at (inl same) = absurd (let there : Reads events p x = subst (λ (k : ℕ). Reads events k x) same reads in cc)
      written r x o less reads at (inr other) = old.written r x o (omega (arith, other)) reads at

  -- a read gets the last write of its variable
  pub noted_read : (y : ℕ) (u : Option ℕ) → op_at events p ≡ Some (Read y) → slice_get last y ≡ Some u → p < length writers → AreWriters events (p + 1) last (slice_set writers p u)
  noted_read y u op entry within = record {
    variables = old.variables;
    places = length-set writers p u ∙ old.places;
    lasts = λ x o at. writer_stays events p x o (λ writes. cc) (old.lasts x o at);
    written = λ r x o less reads at. written r x o less reads at (cases_eq r p);
  }
    where
      written : (r x : ℕ) (o : Option ℕ) → r < p + 1 → Reads events r x → slice_get (slice_set writers p u) r ≡ Some o → (r ≡ p) ⊎ (r ≢ p) → IsWriter events ◌<◌ r x o
      written r x o less reads at (inl same) =
          let now : slice_get (slice_set writers p u) p ≡ Some u = slice_get-set_same writers p u within in
          let there : slice_get (slice_set writers p u) p ≡ Some o = subst (λ (k : ℕ). slice_get (slice_set writers p u) k ≡ Some o) same at in
          let is : u ≡ o = cc in
          let here : Reads events p x = subst (λ (k : ℕ). Reads events k x) same reads in
          let variable : y ≡ x = cc in
          let known : IsWriter events ◌<◌ p x o = subst (λ (k : ℕ). IsWriter events ◌<◌ p k o) variable (subst (λ (k : Option ℕ). IsWriter events ◌<◌ p y k) is (old.lasts y u entry)) in
          subst (λ (k : ℕ). IsWriter events ◌<◌ k x o) (sym same) known
      written r x o less reads at (inr other) = old.written r x o (omega (arith, other)) reads (sym (slice_get-set_other writers p r u other) ∙ at)

-- there is one last write at most
last_write_one : (events : List Event) (j x v w : ℕ) → IsLastWrite events ◌<◌ j x v → IsLastWrite events ◌<◌ j x w → v ≡ w
last_write_one events j x v w a b = go (three_way v w)
  where
    go : (v < w) ⊎ ((v ≡ w) ⊎ (w < v)) → v ≡ w
    go (inl less) = absurd (a.last w b.writes less b.before)
    go (inr (inl same)) = same
    go (inr (inr more)) = absurd (b.last v a.writes more a.before)

-- the last write of the variable of a read is its writer
pub writer_tells : (events : List Event) (r x : ℕ) (o : Option ℕ) → Reads events r x → IsWriter events ◌<◌ r x o → (w : ℕ) → (o ≡ Some w) ↔ IsWriterOfRead events r w
writer_tells events r x (Some v) reads last w = (λ is. let same : v ≡ w = cc in record { var = x; reads = reads; last = subst (λ (k : ℕ). IsLastWrite events ◌<◌ r x k) same last }, λ h. ap Some (last_write_one events r x v w last (own h)))
  where
    own : IsWriterOfRead events r w → IsLastWrite events ◌<◌ r x w
    own h = let other = h.reads in let same : h.var ≡ x = cc in subst (λ (k : ℕ). IsLastWrite events ◌<◌ r k w) same h.last
writer_tells events r x None reads last w = (λ is. cc, λ h. absurd (let other = h.reads in let same : h.var ≡ x = cc in last w (subst (λ (k : ℕ). Writes events w k) same h.last.writes) h.last.before))

-- what reads nothing has no writer
pub no_writer : (events : List Event) (r : ℕ) → ((x : ℕ) → Reads events r x → ⊥) → (w : ℕ) → (nothing ≡ Some w) ↔ IsWriterOfRead events r w
no_writer events r none w = (λ is. cc, λ h. absurd (none h.var h.reads))
