use Rattle.std.proofs.Common.{◌≡◌, ℕ, List, [], sym, ap, subst, ◌∙◌, arith}
use Rattle.std.specs.Prelude.{Vec}
use Rattle.std.specs.declared.alloc.Global.{Global}
use Rattle.trace_laws.specs.Traces.{History}
use Rattle.trace_index.specs.Acquired.{AreAcquires, pair_of}
use Rattle.trace_index.specs.Listed.{IsListOf}
use Rattle.trace_index.proofs.Acquiring.{all_acquires, no_acquires}
use Rattle.trace_index.proofs.index.Index.acquires.Goals as goal

pub returns-then-value-threads : goal.returns-then-value-threads
returns-then-value-threads c =
    let h = c.trace-trace.result.now in
    let past = c.if-value-threads.true in
    let own = c.value.ensures.value in
    let threads = c.threads-threads.ensures in
    subst (λ (h : History). AreAcquires h.events c.args.lock c.args.thread []) c.trace-trace.ensures.value
    (no_acquires h.events h.threads c.len.ensures.trace.named c.args.lock c.args.thread (omega arith))

pub returns : goal.returns
returns c =
    let h = c.self.inside.fronts in
    let lists = c.self.inside.acquires.items in
    let places = c.list.result.now in
    let below = c.if-value-threads.false in
    let own = c.value.ensures.value in
    let threads : c.threads-threads.result ≡ h.threads = c.threads-threads.ensures ∙ ap (λ (h : History). h.threads) (c.trace-trace.ensures.value ∙ sym c.self.view_is) in
    let is : IsListOf lists c.pair.result places = subst (λ (l : List (Vec ℕ Global)). IsListOf l c.pair.result places) c.deref.ensures.value c.list.ensures in
    let of_pair : IsListOf lists (pair_of c.threads-threads.result c.args.lock c.args.thread) places = subst (λ (n : ℕ). IsListOf lists n places) c.pair.ensures.value is in
    rw (← c.self.view_is) (all_acquires h.events h.threads c.args.lock c.args.thread lists places (omega arith) c.self.invariant.acquires
    (subst (λ (n : ℕ). IsListOf lists (pair_of n c.args.lock c.args.thread) places) threads of_pair))
