use Rattle.std.proofs.Common.{◌≡◌, ◌*◌, ℕ, List, length, sym, ap, subst, ◌∙◌}
use Rattle.std.specs.Prelude.{slice_index}
use Rattle.std.proofs.lemmas.List.{with_items_is}
use Rattle.stamp_pool.specs.Rows.{Region, Row, Raises}
use Rattle.stamp_pool.proofs.Lying.{raises_row}
use Rattle.stamp_pool.proofs.pool.Pool.raise_with.Goals as goal

pub returns : goal.returns
returns c =
    let x = c.self.inside in
    let old : Region = record { name = x.seal.name; width = x.width; lent = x.lent.items; counts = x.counts.items } in
    let made = with_items_is x.counts c.raise.new.region (c.raise.ensures.size ∙ c.deref_mut.ensures.len) in
    let wide = c.requires.counts ∙ ap (λ (r : Region). r.width) (sym c.self.view_is) in
    let raised : Raises old c.args.into.now (slice_index c.args.counts.now) (record old { counts = c.raise.new.region }) =
    raises_row old c.args.into.now (slice_index c.args.counts.now) c.deref_mut.result.now c.raise.new.region (c.into.inside.place * x.width) (length c.args.counts.now)
    c.deref_mut.ensures.value wide (ap (λ (r : Row). r.place * x.width) c.into.view_is) c.raise.ensures.own c.raise.ensures.before c.raise.ensures.behind in
    rw (← c.self.view_is) (subst (λ (l : List ℕ). Raises old c.args.into.now (slice_index c.args.counts.now) (record old { counts = l })) (sym made) raised)
