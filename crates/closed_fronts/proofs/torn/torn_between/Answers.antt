use Rattle.std.proofs.Common.{◌≡◌, ◌+◌, ◌<◌, ◌≤◌, ℕ, Some, ◌⊎◌, inl, inr, subst, arith}
use Rattle.trace_laws.specs.Trace.{thread_at}
use Rattle.trace_laws.proofs.Places.{three_way}
use Rattle.closed_fronts.specs.Rows.{IsBrokenAt}
use Rattle.closed_fronts.proofs.torn.torn_between.Goals as goal

pub loop-thread-preserved : goal.loop-thread-preserved
loop-thread-preserved c = λ t a r from less own broken. go t a r from less own broken (three_way t c.loop-thread.thread)
  where
    go : (t a r : ℕ) → c.args.from ≤ t → t < c.loop-thread.thread + 1 → thread_at c.args.ties.now.events a ≡ Some t → IsBrokenAt c.args.ties.now.events c.args.cuts.now a r → (t < c.loop-thread.thread) ⊎ ((t ≡ c.loop-thread.thread) ⊎ (c.loop-thread.thread < t)) → ⊥
    go t a r from less own broken (inl before) = c.loop-thread.invariant t a r from before own broken
    go t a r from less own broken (inr (inl same)) = c.in_default.ensures.none a r (subst (λ (k : ℕ). thread_at c.args.ties.now.events a ≡ Some k) same own) broken
    go t a r from less own broken (inr (inr more)) = omega arith

pub returns-clause-none : goal.returns-clause-none
returns-clause-none c = λ t a r from less own broken. c.loop-thread.invariant t a r from (let past = c.loop-thread-test.false in omega arith) own broken
