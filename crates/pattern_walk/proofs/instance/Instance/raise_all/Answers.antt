use Rattle.std.proofs.Common.{◌≡◌, ◌<◌, ℕ, List, ◌+◌, [], ◌∷◌, ◌++◌, ◌⊎◌, length, take, get_or, sym, ap, subst, ◌∙◌, arith}
use Rattle.std.specs.Prelude.{Contains, IsTrue}
use Rattle.std.proofs.lemmas.List.{take_more}
use Rattle.std.proofs.lemmas.List.Elements.{Contains-get_or}
use Rattle.trace_laws.specs.Trace.{Before}
use Rattle.trace_laws.specs.Traces.{History}
use Rattle.trace_laws.specs.Closed.{IsClosure, IsClosureBefore}
use Rattle.sp_closure.specs.Members.{has, IsAtMostSections}
use Rattle.pattern_walk.proofs.Raising.{closure_push}
use Rattle.pattern_walk.proofs.instance.Instance.raise_all.Goals as goal

pub raise-requires : goal.raise-requires
raise-requires g c =
    let items = c.deref-pick-items.result.now in
    let picks = c.args.self.now.picks.items in
    let k = c.loop-pick.pick-index in
    let pick = get_or items k 0 in
    let inside : k < length items = c.loop-pick-test.true in
    let is_pick : Contains picks pick = subst (λ (xs : List ℕ). Contains xs pick) c.deref-pick-items.ensures.value (Contains-get_or items k 0 inside) in
    subst (λ (h : History). pick < length h.events) (sym c.loop-pick.invariant.trace) (c.requires pick is_pick)

pub loop-pick-preserved : goal.loop-pick-preserved
loop-pick-preserved g c =
    let items = c.deref-pick-items.result.now in
    let picks = c.args.self.now.picks.items in
    let events = c.args.cursor.now.trace.events in
    let k = c.loop-pick.pick-index in
    let pick = get_or items k 0 in
    let inside : k < length items = c.loop-pick-test.true in
    let same : items ≡ picks = c.deref-pick-items.ensures.value in
    let within : k < length picks = subst (λ (xs : List ℕ). k < length xs) same inside in
    let is : get_or picks k 0 ≡ pick = ap (λ (xs : List ℕ). get_or xs k 0) (sym same) in
    let more : take (k + 1) picks ≡ take k picks ++ pick ∷ [] = take_more picks k 0 within ∙ ap (λ (p : ℕ). take k picks ++ p ∷ []) is in
    let old = c.loop-pick.cursor.members in
    let new = c.raise.new.self.members in
    let raised : IsClosure events (λ i. IsTrue (has old i) ⊎ Before events i pick) (has new) = subst (λ (h : History). IsClosure h.events (λ i. IsTrue (has old i) ⊎ Before h.events i pick) (has new)) c.loop-pick.invariant.trace c.raise.ensures.closure in
    record {
      trace = c.raise.ensures.trace ∙ c.loop-pick.invariant.trace;
      few = subst (λ (h : History). IsAtMostSections h.events c.raise.new.self.asked) (c.raise.ensures.trace ∙ c.loop-pick.invariant.trace) c.raise.ensures.few;
      steps = (let stepped = c.raise.ensures.steps in let was = c.loop-pick.invariant.steps in omega arith);
      closure = subst (λ (xs : List ℕ). IsClosureBefore events xs (has new)) (sym more) (closure_push events (take k picks) pick (has old) (has new) c.loop-pick.invariant.closure raised);
    }
