use Rattle.std.proofs.Common.{◌≡◌, ◌<◌, ◌*◌, ◌+◌, ℕ, max, List, length, sym, ap, subst, ◌∙◌, arith}
use Rattle.std.specs.Prelude.{slice_index}
use Rattle.std.proofs.lemmas.List.{with_items_is}
use Rattle.stamp_pool.specs.Rows.{Region, Row, Raises, count_at}
use Rattle.stamp_pool.proofs.Lying.{raises_row}
use Rattle.stamp_pool.proofs.pool.Pool.raise.Goals as goal

pub returns : goal.returns
returns c =
    let x = c.self.inside in
    let old : Region = record { name = x.seal.name; width = x.width; lent = x.lent.items; counts = x.counts.items } in
    let into = c.args.into.now in
    let from = c.args.from.now in
    let counts = count_at old from.place in
    let made = with_items_is x.counts c.raise.new.region (c.raise.ensures.size ∙ c.deref_mut-2.ensures.len) in
    let new = c.raise.new.region in
    let was = c.deref_mut-2.result.now in
    let start = c.into.inside.place * x.width in
    let row = c.deref-2.result.now in
    let copied : row ≡ c.copy.new.row = c.deref-2.ensures.value ∙ with_items_is x.spare c.copy.new.row (c.copy.ensures.size ∙ c.deref_mut.ensures.len) in
    let spare : length row ≡ length c.deref_mut.result.now = ap (λ (l : List ℕ). length l) copied ∙ c.copy.ensures.size in
    let wide : length row ≡ x.width = spare ∙ ap (λ (l : List ℕ). length l) c.deref_mut.ensures.value ∙ c.self.invariant.spare in
    let held : (i : ℕ) → i < length row → slice_index row i ≡ counts i = λ i less.
    ap (λ (l : List ℕ). slice_index l i) copied ∙ c.copy.ensures.each i (omega arith) ∙ ap (λ (l : List ℕ). slice_index l (c.from.inside.place * x.width + i)) c.deref.ensures.value ∙ ap (λ (r : Row). slice_index x.counts.items (r.place * x.width + i)) c.from.view_is in
    let own : (i : ℕ) → i < length row → slice_index new (start + i) ≡ max (slice_index was (start + i)) (counts i) = λ i less. c.raise.ensures.own i less ∙ ap (λ (k : ℕ). max (slice_index was (start + i)) k) (held i less) in
    let raised : Raises old into counts (record old { counts = new }) =
    raises_row old into counts was new start (length row)
    c.deref_mut-2.ensures.value wide (ap (λ (r : Row). r.place * x.width) c.into.view_is) own c.raise.ensures.before c.raise.ensures.behind in
    rw (← c.self.view_is) (subst (λ (l : List ℕ). Raises old into counts (record old { counts = l })) (sym made) raised)
