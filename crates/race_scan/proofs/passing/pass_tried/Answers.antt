use Rattle.std.proofs.Common.{◌≡◌, ℕ, ◌<◌, ◌≤◌, ◌⊎◌, inl, inr, Some, arith, sym, subst, length}
use Rattle.std.specs.Prelude.{IsTrue, slice_get}
use Rattle.trace_laws.specs.Traces.{History}
use Rattle.trace_laws.proofs.Places.{three_way}
use Rattle.sp_closure.specs.Members.{has}
use Rattle.race_scan.specs.Passed.{IsOut}
use Rattle.race_scan.proofs.passing.pass_tried.Goals as goal

pub pass_inside-inside-requires : goal.pass_inside-inside-requires
pass_inside-inside-requires c = λ k e at. subst (λ (h : History). e < length h.events) (sym c.requires.trace) (c.requires.places k e at)

pub returns-clause-from : goal.returns-clause-from
returns-clause-from c = λ e at less member. go e at less member (three_way c.args.start c.pass_inside-inside.result)
  where
    go : (e : ℕ) → slice_get c.args.places.now c.args.start ≡ Some e → e < c.args.later → IsTrue (has c.args.set.now.members e)
        → (c.args.start < c.pass_inside-inside.result) ⊎ ((c.args.start ≡ c.pass_inside-inside.result) ⊎ (c.pass_inside-inside.result < c.args.start)) → c.args.start < c.pass.result
    go e at less member (inl more) = let up = c.pass.ensures.from in omega arith
    go e at less member (inr (inl same)) = absurd (let out = c.pass_inside-inside.ensures.outside e (subst (λ (k : ℕ). slice_get c.args.places.now k ≡ Some e) same at) less in cc)
    go e at less member (inr (inr fewer)) = let up = c.pass_inside-inside.ensures.from in let on = c.pass.ensures.from in absurd (omega arith)

pub returns-clause-passed : goal.returns-clause-passed
returns-clause-passed c = λ k e after less at. go k e after less at (three_way k c.pass_inside-inside.result)
  where
    go : (k e : ℕ) → c.args.start ≤ k → k < c.pass.result → slice_get c.args.places.now k ≡ Some e
        → (k < c.pass_inside-inside.result) ⊎ ((k ≡ c.pass_inside-inside.result) ⊎ (c.pass_inside-inside.result < k)) → IsTrue (has c.args.set.now.members e) ⊎ IsOut c.args.index.now.events c.args.later e
    go k e after less at (inl first) = inl (c.pass_inside-inside.ensures.passed k e after first at)
    go k e after less at (inr (inl same)) = inr (c.pass.ensures.passed k e (omega arith) less at)
    go k e after less at (inr (inr more)) = inr (c.pass.ensures.passed k e (omega arith) less at)
