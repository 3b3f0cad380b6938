use Rattle.std.proofs.Common.{◌≡◌, ◌<◌, ◌≤◌, ℕ, List, Some, length, slice_get, sym, ap, subst, ◌∙◌, arith}
use Rattle.std.specs.Prelude.{Contains}
use Rattle.std.proofs.lemmas.Option.{slice_get-get_or}
use Rattle.pattern_walk.proofs.Nearing.{spread_more, spread_all}
use Rattle.pattern_walk.proofs.near.spread.Goals as goal

pub lower-requires : goal.lower-requires
lower-requires c = λ h m.
    let before = c.args.before.now in
    let k = c.loop-lock.lock in
    let v = c.index-before-lock.result in
    let inside : k < length before = c.loop-lock-test.true in
    let at : slice_get before k ≡ Some v = slice_get-get_or before k v inside ∙ ap Some (sym c.index-before-lock.is) in
    let below = c.requires.below k h v at (subst (λ (xs : List ℕ). Contains xs h) c.deref.ensures.value m) in
    let size = c.loop-lock.invariant.lowered.size in
    let locks = c.requires.locks in
    omega arith

pub loop-lock-preserved : goal.loop-lock-preserved
loop-lock-preserved c =
    let before = c.args.before.now in
    let k = c.loop-lock.lock in
    let v = c.index-before-lock.result in
    let inside : k < length before = c.loop-lock-test.true in
    let at : slice_get before k ≡ Some v = slice_get-get_or before k v inside ∙ ap Some (sym c.index-before-lock.is) in
    spread_more c.args.steps.now.items before c.args.step k v c.loop-lock.steps.items c.lower.new.steps.items c.loop-lock.invariant at c.lower.ensures.lowered (λ h m. c.lower.ensures.reached h (subst (λ (xs : List ℕ). Contains xs h) (sym c.deref.ensures.value) m))

pub returns-clause-reached : goal.returns-clause-reached
returns-clause-reached c = let all : length c.args.before.now ≤ c.loop-lock.lock = c.loop-lock-test.false in spread_all c.args.steps.now.items c.args.before.now c.args.step c.loop-lock.lock c.loop-lock.steps.items all c.loop-lock.invariant
