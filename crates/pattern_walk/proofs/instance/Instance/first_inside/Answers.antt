use Rattle.std.proofs.Common.{◌≡◌, ◌<◌, ◌≤◌, ℕ, List, Some, false, length, get_or, slice_get, sym, ap, subst, ◌∙◌, arith}
use Rattle.std.specs.Prelude.{Contains}
use Rattle.std.proofs.lemmas.List.Elements.{Contains-get_or}
use Rattle.std.proofs.lemmas.Option.{slice_get-get_or, slice_get_within}
use Rattle.trace_laws.proofs.Places.{index_of}
use Rattle.sp_closure.specs.Members.{has}
use Rattle.pattern_walk.proofs.Moving.{outside_more}
use Rattle.pattern_walk.proofs.instance.Instance.first_inside.Goals as goal

pub has-requires : goal.has-requires
has-requires c =
    let items = c.deref-pick-items.result.now in
    let i = c.loop-i.i in
    let inside : i < length items = c.loop-i-test.true in
    c.requires (get_or items i 0) (subst (λ (xs : List ℕ). Contains xs (get_or items i 0)) c.deref-pick-items.ensures.value (Contains-get_or items i 0 inside))

pub loop-i-preserved : goal.loop-i-preserved
loop-i-preserved c =
    let items = c.deref-pick-items.result.now in
    let picks = c.args.self.now.picks.items in
    let i = c.loop-i.i in
    let inside : i < length items = c.loop-i-test.true in
    let at : slice_get picks i ≡ Some (get_or items i 0) = subst (λ (xs : List ℕ). slice_get xs i ≡ Some (get_or items i 0)) c.deref-pick-items.ensures.value (slice_get-get_or items i 0 inside) in
    let is : has c.args.cursor.now.members (get_or items i 0) ≡ false = sym c.has.ensures ∙ c.if-has.false in
    outside_more (has c.args.cursor.now.members) picks i (get_or items i 0) c.loop-i.invariant at is

pub returns-clause-none : goal.returns-clause-none
returns-clause-none c = λ e m.
    let picks = c.args.self.now.picks.items in
    let at = index_of picks e m in
    let within = slice_get_within picks at.0 e at.1 in
    let all : length c.deref-pick-items.result.now ≤ c.loop-i.i = c.loop-i-test.false in
    let same = ap (λ (xs : List ℕ). length xs) c.deref-pick-items.ensures.value in
    c.loop-i.invariant at.0 e (omega arith) at.1
