use Rattle.std.proofs.Common.{◌+◌, ℕ, List, sym, ap, ◌∙◌, arith}
use Rattle.std.specs.Prelude.{slice_index}
use Rattle.std.proofs.lemmas.List.{get_or_read}
use Rattle.closed_fronts.specs.Shares.{shared_row}
use Rattle.closed_fronts.proofs.Sharing.{shared_known, shares_size, shared_own, shared_other}
use Rattle.closed_fronts.proofs.rows.Rows.cut.Goals as goal

pub index-share-requires : goal.index-share-requires
index-share-requires c = let size = shares_size c.self.inside.cuts.items c.self.inside.shares.items c.args.self.now c.self.view_is in let few = c.self.invariant.few in let less = c.requires.place in let len = c.self.inside.shares.ok.0 in omega arith

pub overflow_add-result : goal.overflow_add-result
overflow_add-result c = let size = shares_size c.self.inside.cuts.items c.self.inside.shares.items c.args.self.now c.self.view_is in let few = c.self.invariant.few in let less = c.requires.place in omega arith

pub returns-then-thread-share : goal.returns-then-thread-share
returns-then-thread-share c =
    let s = c.index-share.result.now in
    let k = shared_known c.self.inside.cuts.items c.self.inside.shares.items c.args.self.now c.args.place c.index-share.result.now c.self.invariant c.self.view_is c.requires.place c.index-share.ensures in
    let same = c.if-thread-share.true in
    sym (ap (λ (row : List ℕ). slice_index row c.args.thread) k.row ∙ ap (λ (t : ℕ). slice_index (shared_row c.self.inside.cuts.items c.args.place s) t) same ∙ shared_own c.self.inside.cuts.items c.args.place s k.within k.own)

pub index-requires : goal.index-requires
index-requires c = let k = shared_known c.self.inside.cuts.items c.self.inside.shares.items c.args.self.now c.args.place c.index-share.result.now c.self.invariant c.self.view_is c.requires.place c.index-share.ensures in let within = k.within in let size = k.size in let less = c.requires.thread in let len = c.self.inside.cuts.ok.0 in omega arith

pub returns : goal.returns
returns c =
    let s = c.index-share.result.now in
    let k = shared_known c.self.inside.cuts.items c.self.inside.shares.items c.args.self.now c.args.place c.index-share.result.now c.self.invariant c.self.view_is c.requires.place c.index-share.ensures in
    let within = k.within in
    let size = k.size in
    let less = c.requires.thread in
    let read = get_or_read c.self.inside.cuts.items (s.start + c.args.thread) c.index.result.now (omega arith) c.index.ensures 0 in
    read ∙ sym (ap (λ (row : List ℕ). slice_index row c.args.thread) k.row ∙ shared_other c.self.inside.cuts.items c.args.place s c.args.thread c.if-thread-share.false (omega arith))
