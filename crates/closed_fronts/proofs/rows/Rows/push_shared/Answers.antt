use Rattle.std.proofs.Common.{◌≡◌, ◌+◌, ◌∷◌, [], ◌++◌, ℕ, List, length, sym, ap, subst, ◌∙◌, arith, get_or-set_same}
use Rattle.std.specs.Prelude.{OnOk, slice_index, slice_set}
use Rattle.closed_fronts.specs.declared.rows.Share.{Share}
use Rattle.closed_fronts.specs.Rows.{row_in}
use Rattle.closed_fronts.specs.Shares.{rows_from, AreShares}
use Rattle.closed_fronts.proofs.Sharing.{shares_size, given_share, given_rows}
use Rattle.closed_fronts.proofs.rows.Rows.push_shared.Goals as goal

pub index-share-requires : goal.index-share-requires
index-share-requires c = let size = shares_size c.self.inside.cuts.items c.self.inside.shares.items c.args.self.now c.self.view_is in let less = c.requires.source in let len = c.self.inside.shares.ok.0 in omega arith

pub push_row-requires-clause-own : goal.push_row-requires-clause-own
push_row-requires-clause-own c =
    let size = shares_size c.self.inside.cuts.items c.self.inside.shares.items c.args.self.now c.self.view_is in
    let less = c.requires.thread in
    let row = ap (λ (xs : List ℕ). length xs) c.in_ok-row.ensures in
    let len = c.len.ensures in
    let ok = c.self.inside.shares.ok.0 in
    ap (λ (xs : List ℕ). slice_index xs c.args.thread) c.deref.ensures.value ∙ get_or-set_same c.in_ok-row.row.items c.args.thread (c.len.result + 1) 0 (omega arith) ∙ (omega arith)

pub returns-then-share-thread : goal.returns-then-share-thread
returns-then-share-thread c =
    let size = shares_size c.self.inside.cuts.items c.self.inside.shares.items c.args.self.now c.self.view_is in
    let len = c.len.ensures in
    let ok = c.self.inside.shares.ok.0 in
    let next : c.len.result + 1 ≡ length c.args.self.now + 1 = omega arith in
    subst (λ (row : List ℕ). OnOk c.push_row.result (c.push_row.new.self ≡ c.args.self.now ++ row ∷ []))
    (c.deref.ensures.value ∙ ap (λ (xs : List ℕ). slice_set xs c.args.thread (c.len.result + 1)) c.in_ok-row.ensures ∙ ap (λ (v : ℕ). slice_set (row_in c.args.self.now c.args.source) c.args.thread v) next)
    c.push_row.ensures

pub invariant_of-self : goal.invariant_of-self
invariant_of-self c = subst (λ (xs : List Share). AreShares c.self.inside.cuts.items xs) (sym c.in_default.ensures.items) c.self.invariant

pub invariant_of-self-2 : goal.invariant_of-self-2
invariant_of-self-2 c =
    subst (λ (xs : List Share). AreShares c.self.inside.cuts.items xs) (sym c.in-Ok.ensures.items)
    (given_share c.self.inside.cuts.items c.self.inside.shares.items c.args.self.now c.args.source c.index-share.result.now c.self.invariant c.self.view_is c.requires.few c.requires.source c.index-share.ensures)

pub returns : goal.returns
returns c =
    ap (λ (xs : List Share). rows_from c.self.inside.cuts.items 0 xs) c.in-Ok.ensures.items ∙
    given_rows c.self.inside.cuts.items c.self.inside.shares.items c.args.self.now c.args.source c.index-share.result.now c.self.invariant c.self.view_is c.requires.few c.requires.source c.index-share.ensures ∙
    ap (λ (t : ℕ). c.args.self.now ++ slice_set (row_in c.args.self.now c.args.source) t (length c.args.self.now + 1) ∷ []) c.if-share-thread.false
