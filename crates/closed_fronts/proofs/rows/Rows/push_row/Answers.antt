use Rattle.std.proofs.Common.{◌≡◌, ◌∷◌, [], ◌++◌, ℕ, List, length, refl, sym, ap, subst, ◌∙◌, arith}
use Rattle.closed_fronts.specs.declared.rows.Share.{Share}
use Rattle.closed_fronts.specs.Shares.{rows_from, AreShares}
use Rattle.closed_fronts.proofs.Sharing.{shares_size, shares_kept, stored_share, stored_rows}
use Rattle.closed_fronts.proofs.rows.Rows.push_row.Goals as goal

-- where the row is stored
abbrev stored : (c : goal.In-Ok-push) → Share
stored c = record { start = c.in-Ok.start; size = length c.args.cuts.now; thread = c.args.thread }

-- it is stored at the end
start : (c : goal.In-Ok-push) → (stored c).start ≡ length c.self.inside.cuts.items
start c = let is = c.in-Ok.ensures.1 in let len = c.len.ensures in let ok = c.self.inside.cuts.ok.0 in omega arith

-- the trace has one place more
few : (c : goal.In-Ok-push) → length c.self.inside.shares.items ≡ length c.args.self.now
few c = sym (shares_size c.self.inside.cuts.items c.self.inside.shares.items c.args.self.now c.self.view_is)

pub invariant_of-self : goal.invariant_of-self
invariant_of-self c = subst (λ (xs : List ℕ). AreShares xs c.self.inside.shares.items) (sym c.in_err-extend_from_slice.ensures.items) c.self.invariant

pub invariant_of-self-in_default-push : goal.invariant_of-self-in_default-push
invariant_of-self-in_default-push c =
    subst (λ (xs : List Share). AreShares c.extend_from_slice.new.self.items xs) (sym c.in_default-push.ensures.items)
    (subst (λ (xs : List ℕ). AreShares xs c.self.inside.shares.items) (sym c.in_ok-extend_from_slice.ensures.items) (shares_kept c.self.inside.cuts.items c.args.cuts.now c.self.inside.shares.items c.self.invariant))

pub invariant_of-self-2 : goal.invariant_of-self-2
invariant_of-self-2 c =
    let size = few c in
    let less = c.requires.few in
    let own = c.requires.own in
    subst (λ (xs : List Share). AreShares c.extend_from_slice.new.self.items xs) (sym c.in-Ok-push.ensures.items)
    (subst (λ (xs : List ℕ). AreShares xs (c.self.inside.shares.items ++ stored c ∷ [])) (sym c.in_ok-extend_from_slice.ensures.items)
    (stored_share c.self.inside.cuts.items c.args.cuts.now c.self.inside.shares.items (stored c) c.self.invariant (omega arith) (start c) refl c.requires.thread (omega arith)))

pub returns : goal.returns
returns c =
    let size = few c in
    let less = c.requires.few in
    let own = c.requires.own in
    ap (λ (xs : List Share). rows_from c.extend_from_slice.new.self.items 0 xs) c.in-Ok-push.ensures.items ∙
    ap (λ (xs : List ℕ). rows_from xs 0 (c.self.inside.shares.items ++ stored c ∷ [])) c.in_ok-extend_from_slice.ensures.items ∙
    stored_rows c.self.inside.cuts.items c.args.cuts.now c.self.inside.shares.items (stored c) c.self.invariant (omega arith) (start c) refl c.requires.thread (omega arith) ∙
    ap (λ (rows : List (List ℕ)). rows ++ c.args.cuts.now ∷ []) c.self.view_is
