use Rattle.std.proofs.Common.{◌≡◌, ◌≢◌, ◌<◌, ◌≤◌, ℕ, List, length, get_or, slice_index, refl, sym, ap, subst, ◌∙◌, arith}
use Rattle.std.specs.Prelude.{Contains}
use Rattle.std.proofs.lemmas.List.Elements.{Contains-get_or}
use Rattle.std.proofs.lemmas.Option.{slice_get-get_or, slice_get_within}
use Rattle.trace_laws.proofs.Places.{index_of, contains_at}
use Rattle.pattern_walk.specs.Cycles.{class_of}
use Rattle.pattern_walk.proofs.PatternCycles.{class_at}
use Rattle.pattern_walk.proofs.Ordering.{read_of}
use Rattle.pattern_walk.proofs.Linking.{unlike_more}
use Rattle.pattern_walk.proofs.links.has_link.Goals as goal

pub are_same-requires-clause-a : goal.are_same-requires-clause-a
are_same-requires-clause-a c =
    let classes = c.args.classes.now.classes in
    let n = c.args.class in
    let is : (class_of classes n).lock ≡ c.lock.result = read_of (λ k. k.lock) classes n c.lock.result c.lock.ensures in
    let own = c.value-lock.ensures.value in
    let below = c.requires.ranks.locks.lock (class_of classes n) (contains_at classes n (class_of classes n) (class_at classes n c.requires.class)) in
    omega arith

pub are_same-requires-clause-b : goal.are_same-requires-clause-b
are_same-requires-clause-b c =
    let classes = c.args.classes.now.classes in
    let n = c.args.class in
    let held = c.held-held.result.now in
    let k = c.loop-other.other-index in
    let inside : k < length held = c.loop-other-test.true in
    let is : (class_of classes n).held ≡ held = read_of (λ k. k.held) classes n held c.held-held.ensures in
    c.requires.ranks.locks.held (class_of classes n) (get_or held k 0) (contains_at classes n (class_of classes n) (class_at classes n c.requires.class)) (subst (λ (xs : List ℕ). Contains xs (get_or held k 0)) (sym is) (Contains-get_or held k 0 inside))

pub returns-then-are_same : goal.returns-then-are_same
returns-then-are_same c =
    let classes = c.args.classes.now.classes in
    let n = c.args.class in
    let ranks = c.args.ranks.now in
    let held = c.held-held.result.now in
    let k = c.loop-other.other-index in
    let inside : k < length held = c.loop-other-test.true in
    let is_held : (class_of classes n).held ≡ held = read_of (λ k. k.held) classes n held c.held-held.ensures in
    let is_lock : (class_of classes n).lock ≡ c.value-lock.result = read_of (λ k. k.lock) classes n c.lock.result c.lock.ensures ∙ sym c.value-lock.ensures.value in (
      λ _. record {
        lock = get_or held k 0;
        held = subst (λ (xs : List ℕ). Contains xs (get_or held k 0)) (sym is_held) (Contains-get_or held k 0 inside);
        same = ap (λ (l : ℕ). slice_index ranks l) is_lock ∙ c.are_same.ensures.0 c.if-are_same.true;
      },
      λ _. refl,
    )

pub loop-other-preserved : goal.loop-other-preserved
loop-other-preserved c =
    let ranks = c.args.ranks.now in
    let held = c.held-held.result.now in
    let k = c.loop-other.other-index in
    let inside : k < length held = c.loop-other-test.true in
    let differs : slice_index ranks c.value-lock.result ≢ slice_index ranks (get_or held k 0) = λ same. (let on = c.are_same.ensures.1 same in let off = c.if-are_same.false in cc) in
    unlike_more ranks held c.value-lock.result k (get_or held k 0) c.loop-other.invariant (slice_get-get_or held k 0 inside) differs

pub returns : goal.returns
returns c =
    let classes = c.args.classes.now.classes in
    let n = c.args.class in
    let ranks = c.args.ranks.now in
    let held = c.held-held.result.now in
    let past : length held ≤ c.loop-other.other-index = c.loop-other-test.false in
    let is_held : (class_of classes n).held ≡ held = read_of (λ k. k.held) classes n held c.held-held.ensures in
    let is_lock : (class_of classes n).lock ≡ c.value-lock.result = read_of (λ k. k.lock) classes n c.lock.result c.lock.ensures ∙ sym c.value-lock.ensures.value in (
      λ is. cc,
      λ link.
          let at = index_of held link.lock (subst (λ (xs : List ℕ). Contains xs link.lock) is_held link.held) in
          let within = slice_get_within held at.0 link.lock at.1 in
          absurd (c.loop-other.invariant at.0 link.lock (omega arith) at.1 (ap (λ (l : ℕ). slice_index ranks l) (sym is_lock) ∙ link.same)),
    )
