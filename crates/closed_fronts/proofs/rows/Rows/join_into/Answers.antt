use Rattle.std.proofs.Common.{◌+◌, ℕ, List, length, sym, ap, subst, ◌∙◌, arith}
use Rattle.std.specs.Prelude.{slice_range, slice_set}
use Rattle.closed_fronts.specs.Rows.{IsJoin}
use Rattle.closed_fronts.proofs.Sharing.{shared_known, shares_size, part_size, part_at, join_raised}
use Rattle.closed_fronts.proofs.rows.Rows.join_into.Goals as goal

pub index-share-requires : goal.index-share-requires
index-share-requires c = let size = shares_size c.self.inside.cuts.items c.self.inside.shares.items c.args.self.now c.self.view_is in let few = c.self.invariant.few in let less = c.requires.place in let len = c.self.inside.shares.ok.0 in omega arith

pub slice_bounds-join-end : goal.slice_bounds-join-end
slice_bounds-join-end c = let k = shared_known c.self.inside.cuts.items c.self.inside.shares.items c.args.self.now c.args.place c.index-share.result.now c.self.invariant c.self.view_is c.requires.place c.index-share.ensures in let within = k.within in let len = c.deref.ensures.len in let ok = c.self.inside.cuts.ok.0 in omega arith

pub join-requires : goal.join-requires
join-requires c =
    let s = c.index-share.result.now in
    let k = shared_known c.self.inside.cuts.items c.self.inside.shares.items c.args.self.now c.args.place c.index-share.result.now c.self.invariant c.self.view_is c.requires.place c.index-share.ensures in
    c.requires.size ∙ k.size ∙ sym (part_size c.self.inside.cuts.items s.start s.size k.within) ∙ ap (λ (xs : List ℕ). length (slice_range xs s.start (s.start + s.size))) (sym c.deref.ensures.value)

pub bounds-cuts-own : goal.bounds-cuts-own
bounds-cuts-own c = let k = shared_known c.self.inside.cuts.items c.self.inside.shares.items c.args.self.now c.args.place c.index-share.result.now c.self.invariant c.self.view_is c.requires.place c.index-share.ensures in let own = k.own in let size = k.size in let given = c.requires.size in let joined = c.join.ensures.size in omega arith

pub overflow_add-place : goal.overflow_add-place
overflow_add-place c = let size = shares_size c.self.inside.cuts.items c.self.inside.shares.items c.args.self.now c.self.view_is in let few = c.self.invariant.few in let less = c.requires.place in omega arith

pub bounds-cuts-own-2 : goal.bounds-cuts-own-2
bounds-cuts-own-2 c = let k = shared_known c.self.inside.cuts.items c.self.inside.shares.items c.args.self.now c.args.place c.index-share.result.now c.self.invariant c.self.view_is c.requires.place c.index-share.ensures in let own = k.own in let size = k.size in let given = c.requires.size in let joined = c.join.ensures.size in omega arith

pub returns : goal.returns
returns c =
    let s = c.index-share.result.now in
    let k = shared_known c.self.inside.cuts.items c.self.inside.shares.items c.args.self.now c.args.place c.index-share.result.now c.self.invariant c.self.view_is c.requires.place c.index-share.ensures in
    let cuts = c.self.inside.cuts.items in
    let part = slice_range cuts s.start (s.start + s.size) in
    let size = part_size cuts s.start s.size k.within in
    let own = k.own in
    let given = c.requires.size in
    let whole = k.size in
    let same = part_at cuts s.start s.size s.thread own in
    let older = k.older in
    let join : IsJoin c.args.cuts.now part c.join.new.cuts = subst (λ (xs : List ℕ). IsJoin c.args.cuts.now (slice_range xs s.start (s.start + s.size)) c.join.new.cuts) c.deref.ensures.value c.join.ensures in
    subst (λ (row : List ℕ). IsJoin c.args.cuts.now row (slice_set c.join.new.cuts s.thread c.max.result)) (sym k.row)
    (subst (λ (v : ℕ). IsJoin c.args.cuts.now (slice_set part s.thread (c.args.place + 1)) (slice_set c.join.new.cuts s.thread v)) (sym c.max.ensures)
    (join_raised c.args.cuts.now part c.join.new.cuts s.thread (c.args.place + 1) join (omega arith) (omega arith) (omega arith)))
