use Rattle.std.proofs.Common.{◌≡◌, ◌≢◌, ◌+◌, ◌<◌, ◌≤◌, ◌⊎◌, inl, inr, ℕ, List, Some, slice_get, slice_index, sym, subst, ◌∙◌, arith}
use Rattle.std.specs.Prelude.{Contains}
use Rattle.std.proofs.lemmas.Bool.{cases_eq}
use Rattle.std.proofs.lemmas.Option.{slice_get_within}
use Rattle.trace_laws.specs.Patterns.{Class}
use Rattle.trace_laws.proofs.Places.{index_of, contains_at}
use Rattle.lock_graph.proofs.Reading.{read_is, listed_at}
use Rattle.lock_graph.proofs.ranks.do_fall.Goals as goal

pub is_least-requires-clause-lock : goal.is_least-requires-clause-lock
is_least-requires-clause-lock c =
    let classes = c.args.classes.now.classes in
    let n = c.loop-class.class in
    let found = listed_at classes n (let size = c.len-class-end.ensures.value in let test = c.loop-class-test.true in omega arith) in
    let is : found.0.lock ≡ c.lock.result = read_is (λ k. k.lock) classes n c.lock.result found.0 c.lock.ensures found.1 in
    let own = c.value.ensures.value in
    let below = c.requires.lock found.0 (contains_at classes n found.0 found.1) in
    omega arith

pub is_least-requires-clause-others : goal.is_least-requires-clause-others
is_least-requires-clause-others c = λ h m.
    let classes = c.args.classes.now.classes in
    let n = c.loop-class.class in
    let found = listed_at classes n (let size = c.len-class-end.ensures.value in let test = c.loop-class-test.true in omega arith) in
    let is : found.0.held ≡ c.held.result.now = read_is (λ k. k.held) classes n c.held.result.now found.0 c.held.ensures found.1 in
    c.requires.held found.0 h (contains_at classes n found.0 found.1) (subst (λ (xs : List ℕ). Contains xs h) (sym is) m)

pub loop-class-preserved : goal.loop-class-preserved
loop-class-preserved c = λ n d h less at m. go n d h less at m (cases_eq n c.loop-class.class)
  where
    go : (n : ℕ) (d : Class) (h : ℕ) → n < c.loop-class.class + 1 → slice_get c.args.classes.now.classes n ≡ Some d → Contains d.held h → (n ≡ c.loop-class.class) ⊎ (n ≢ c.loop-class.class) → slice_index c.args.ranks.now d.lock ≤ slice_index c.args.ranks.now h
    go n d h less at m (inl same) =
        let classes = c.args.classes.now.classes in
        let here : slice_get classes c.loop-class.class ≡ Some d = subst (λ (k : ℕ). slice_get classes k ≡ Some d) same at in
        let held : d.held ≡ c.held.result.now = read_is (λ k. k.held) classes c.loop-class.class c.held.result.now d c.held.ensures here in
        let lock : c.value.result ≡ d.lock = c.value.ensures.value ∙ sym (read_is (λ k. k.lock) classes c.loop-class.class c.lock.result d c.lock.ensures here) in
        subst (λ (l : ℕ). slice_index c.args.ranks.now l ≤ slice_index c.args.ranks.now h) lock (c.is_least.ensures c.if-not-is_least.false h (subst (λ (xs : List ℕ). Contains xs h) held m))
    go n d h less at m (inr other) = c.loop-class.invariant n d h (omega (arith, other)) at m

pub returns : goal.returns
returns c = λ is d h m held.
    let classes = c.args.classes.now.classes in
    let at = index_of classes d m in
    let within = slice_get_within classes at.0 d at.1 in
    let size = c.len-class-end.ensures.value in
    let past = c.loop-class-test.false in
    c.loop-class.invariant at.0 d h (omega arith) at.1 held
