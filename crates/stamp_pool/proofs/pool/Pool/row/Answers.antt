use Rattle.std.proofs.Common.{◌≡◌, ◌≤◌, ◌*◌, ◌+◌, ℕ, List, length, Some, true, sym, ap, subst, ◌∙◌}
use Rattle.std.specs.Prelude.{slice_get}
use Rattle.std.proofs.lemmas.Option.{slice_get_within}
use Rattle.stamp_pool.specs.Rows.{Region, Row}
use Rattle.stamp_pool.proofs.Lying.{row_within}
use Rattle.stamp_pool.proofs.pool.Pool.row.Goals as goal

pub row-requires : goal.row-requires
row-requires c =
    let x = c.self.inside in
    let place = c.row.inside.place in
    let lent : slice_get x.lent.items place ≡ Some true =
    ap (λ (r : Region). slice_get r.lent place) c.self.view_is ∙ ap (λ (r : Row). slice_get c.args.self.now.lent r.place) c.row.view_is ∙ c.requires.lent in
    let inside = row_within place (length x.lent.items) x.width (length x.counts.items) (slice_get_within x.lent.items place true lent) c.self.invariant.size in
    subst (λ (l : List ℕ). place * x.width + x.width ≤ length l) (sym c.deref.ensures.value) inside
