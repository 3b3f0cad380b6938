use Rattle.std.proofs.Common.{◌+◌, ℕ, List, length, sym, ap, ◌∙◌, arith}
use Rattle.std.specs.Prelude.{slice_index, slice_range, slice_set}
use Rattle.std.proofs.lemmas.List.{set-set}
use Rattle.closed_fronts.proofs.Sharing.{shared_known, shares_size, part_size, alike_set}
use Rattle.closed_fronts.proofs.rows.Rows.is_like.Goals as goal

pub index-share-requires : goal.index-share-requires
index-share-requires c = let size = shares_size c.self.inside.cuts.items c.self.inside.shares.items c.args.self.now c.self.view_is in let less = c.requires.source in let len = c.self.inside.shares.ok.0 in omega arith

pub slice_bounds-row-end : goal.slice_bounds-row-end
slice_bounds-row-end c = let k = shared_known c.self.inside.cuts.items c.self.inside.shares.items c.args.self.now c.args.source c.index-share.result.now c.self.invariant c.self.view_is c.requires.source c.index-share.ensures in let within = k.within in let len = c.deref.ensures.len in let ok = c.self.inside.cuts.ok.0 in omega arith

pub are_alike-requires : goal.are_alike-requires
are_alike-requires c =
    let s = c.index-share.result.now in
    let k = shared_known c.self.inside.cuts.items c.self.inside.shares.items c.args.self.now c.args.source c.index-share.result.now c.self.invariant c.self.view_is c.requires.source c.index-share.ensures in
    ap (λ (xs : List ℕ). length (slice_range xs s.start (s.start + s.size))) c.deref.ensures.value ∙ part_size c.self.inside.cuts.items s.start s.size k.within ∙ sym k.size ∙ c.requires.size

pub returns : goal.returns
returns c = λ test.
    let s = c.index-share.result.now in
    let k = shared_known c.self.inside.cuts.items c.self.inside.shares.items c.args.self.now c.args.source c.index-share.result.now c.self.invariant c.self.view_is c.requires.source c.index-share.ensures in
    let cuts = c.self.inside.cuts.items in
    let part = slice_range cuts s.start (s.start + s.size) in
    let t = c.args.thread in
    let v = slice_index c.args.cuts.now t in
    let size = part_size cuts s.start s.size k.within ∙ sym k.size ∙ c.requires.size in
    ap (λ (row : List ℕ). slice_set row t v) k.row ∙
    ap (λ (u : ℕ). slice_set (slice_set part u (c.args.source + 1)) t v) (sym c.if-thread-share.false) ∙
    set-set part t (c.args.source + 1) v ∙
    alike_set part c.args.cuts.now t size (λ u other. ap (λ (xs : List ℕ). slice_index (slice_range xs s.start (s.start + s.size)) u) (sym c.deref.ensures.value) ∙ c.are_alike.ensures test u other)
