use Rattle.std.proofs.Common.{◌+◌, ℕ, List, length, sym, ap, ◌∙◌, arith}
use Rattle.std.specs.Prelude.{slice_range, slice_set}
use Rattle.closed_fronts.proofs.Sharing.{shared_known, shares_size, part_size}
use Rattle.closed_fronts.proofs.rows.Rows.copied.Goals as goal

pub index-share-requires : goal.index-share-requires
index-share-requires c = let size = shares_size c.self.inside.cuts.items c.self.inside.shares.items c.args.self.now c.self.view_is in let few = c.self.invariant.few in let less = c.requires in let len = c.self.inside.shares.ok.0 in omega arith

pub slice_bounds-to_vec-end : goal.slice_bounds-to_vec-end
slice_bounds-to_vec-end c = let k = shared_known c.self.inside.cuts.items c.self.inside.shares.items c.args.self.now c.args.place c.index-share.result.now c.self.invariant c.self.view_is c.requires c.index-share.ensures in let within = k.within in let len = c.deref.ensures.len in let ok = c.self.inside.cuts.ok.0 in omega arith

pub overflow_add-place : goal.overflow_add-place
overflow_add-place c = let size = shares_size c.self.inside.cuts.items c.self.inside.shares.items c.args.self.now c.self.view_is in let few = c.self.invariant.few in let less = c.requires in omega arith

pub index_mut-requires : goal.index_mut-requires
index_mut-requires c =
    let s = c.index-share.result.now in
    let k = shared_known c.self.inside.cuts.items c.self.inside.shares.items c.args.self.now c.args.place c.index-share.result.now c.self.invariant c.self.view_is c.requires c.index-share.ensures in
    let own = k.own in
    let size = part_size c.self.inside.cuts.items s.start s.size k.within in
    let part = ap (λ (xs : List ℕ). length (slice_range xs s.start (s.start + s.size))) c.deref.ensures.value in
    let copy = ap (λ (xs : List ℕ). length xs) (c.in_ok-row.ensures.items_if_clones_equal (λ x y h. h)) in
    let ok = c.in_ok-row.row.ok.0 in
    omega arith

pub returns : goal.returns
returns c =
    let s = c.index-share.result.now in
    let k = shared_known c.self.inside.cuts.items c.self.inside.shares.items c.args.self.now c.args.place c.index-share.result.now c.self.invariant c.self.view_is c.requires c.index-share.ensures in
    ap (λ (xs : List ℕ). slice_set xs s.thread (c.args.place + 1)) (c.in_ok-row.ensures.items_if_clones_equal (λ x y h. h) ∙ ap (λ (xs : List ℕ). slice_range xs s.start (s.start + s.size)) c.deref.ensures.value) ∙ sym k.row
