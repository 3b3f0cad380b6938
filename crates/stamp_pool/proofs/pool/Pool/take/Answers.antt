use Rattle.std.proofs.Common.{◌≡◌, ◌<◌, ◌≤◌, ◌*◌, ◌+◌, ℕ, List, Bool, length, Some, false, true, refl, sym, ap, subst, ◌∙◌, arith}
use Rattle.std.specs.Prelude.{slice_get, slice_set}
use Rattle.std.proofs.lemmas.Option.{slice_get_within}
use Rattle.std.proofs.lemmas.List.{with_items_is}
use Rattle.stamp_pool.specs.Rows.{Region, Row, Lends}
use Rattle.stamp_pool.proofs.Lying.{none_free, row_within, sets_row}
use Rattle.stamp_pool.proofs.pool.Pool.take.Goals as goal

pub returns-in_default-clause-none : goal.returns-in_default-clause-none
returns-in_default-clause-none c =
    rw (← c.self.view_is) (none_free c.self.inside.lent.items (λ k at. c.in_default.ensures.none k (subst (λ (l : List Bool). slice_get l k ≡ Some false) (sym c.deref.ensures.value) at)))

pub index_mut-requires : goal.index_mut-requires
index_mut-requires c =
    let lent = c.self.inside.lent.items in
    let within = slice_get_within lent c.in-Some.place false (subst (λ (l : List Bool). slice_get l c.in-Some.place ≡ Some false) c.deref.ensures.value c.in-Some.ensures.some) in
    let ok = c.self.inside.lent.ok in
    omega arith

pub overflow_mul-place : goal.overflow_mul-place
overflow_mul-place c =
    let x = c.self.inside in
    let within = slice_get_within x.lent.items c.in-Some.place false (subst (λ (l : List Bool). slice_get l c.in-Some.place ≡ Some false) c.deref.ensures.value c.in-Some.ensures.some) in
    let inside = row_within c.in-Some.place (length x.lent.items) x.width (length x.counts.items) within c.self.invariant.size in
    let ok = x.counts.ok in
    let small = x.counts.small in
    record { fits = omega arith }

pub clear-requires : goal.clear-requires
clear-requires c =
    let x = c.self.inside in
    let within = slice_get_within x.lent.items c.in-Some.place false (subst (λ (l : List Bool). slice_get l c.in-Some.place ≡ Some false) c.deref.ensures.value c.in-Some.ensures.some) in
    let inside = row_within c.in-Some.place (length x.lent.items) x.width (length x.counts.items) within c.self.invariant.size in
    subst (λ (l : List ℕ). c.in-Some.place * x.width + x.width ≤ length l) (sym c.deref_mut.ensures.value) inside

pub overflow_cast-result : goal.overflow_cast-result
overflow_cast-result c =
    let x = c.self.inside in
    let within = slice_get_within x.lent.items c.in-Some.place false (subst (λ (l : List Bool). slice_get l c.in-Some.place ≡ Some false) c.deref.ensures.value c.in-Some.ensures.some) in
    let few = c.self.invariant.few in
    record { fits = omega arith }

pub returns-clause-some : goal.returns-clause-some
returns-clause-some c =
    let x = c.self.inside in
    let place = c.in-Some.place in
    let old : Region = record { name = x.seal.name; width = x.width; lent = x.lent.items; counts = x.counts.items } in
    let row : Row = record { pool = c.of.result.value.name; place = place } in
    let lent = slice_set x.lent.items place true in
    let made = with_items_is x.counts c.clear.new.region (c.clear.ensures.size ∙ c.deref_mut.ensures.len) in
    let lends : Lends old row (record { name = x.seal.name; width = x.width; lent = lent; counts = c.clear.new.region }) = record {
      own = ap (λ b. b.name) c.of.ensures;
      free = subst (λ (l : List Bool). slice_get l place ≡ Some false) c.deref.ensures.value c.in-Some.ensures.some;
      lent = refl;
      zeros = sets_row old place (λ i. 0) lent c.deref_mut.result.now c.clear.new.region (place * x.width) x.width c.deref_mut.ensures.value refl refl c.clear.ensures.own c.clear.ensures.before c.clear.ensures.behind;
    } in
    rw (← c.self.view_is) (subst (λ (l : List ℕ). Lends old row (record { name = x.seal.name; width = x.width; lent = lent; counts = l })) (sym made) lends)
