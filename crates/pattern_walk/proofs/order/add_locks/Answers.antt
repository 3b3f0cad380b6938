use Rattle.std.proofs.Common.{◌≡◌, ◌<◌, ◌≤◌, ℕ, List, [], ◌∷◌, true, length, get_or, inl, eqb, sym, subst, ◌∙◌}
use Rattle.std.specs.Prelude.{Contains}
use Rattle.std.specs.List.{list_any}
use Rattle.std.proofs.lemmas.List.Elements.{Contains-push, Contains-push_cases, Contains-append_left}
use Rattle.std.proofs.lemmas.Option.{slice_get-get_or}
use Rattle.pattern_walk.proofs.Ordering.{contains_tested, locks_none, locks_more, locks_all}
use Rattle.pattern_walk.proofs.order.add_locks.Goals as goal

pub loop-lock-init : goal.loop-lock-init
loop-lock-init c = locks_none c.args.list.now.items c.args.locks.now

pub loop-lock-preserved-then-contains : goal.loop-lock-preserved-then-contains
loop-lock-preserved-then-contains c =
    let locks = c.args.locks.now in
    let now = c.loop-lock.list.items in
    let k = c.loop-lock.lock-index in
    let inside : k < length locks = c.loop-lock-test.true in
    let tested : list_any (λ y. eqb y (get_or locks k 0)) now ≡ true = subst (λ (xs : List ℕ). list_any (λ y. eqb y (get_or locks k 0)) xs ≡ true) c.deref.ensures.value (sym c.contains.ensures.value ∙ c.if-contains.true) in
    locks_more c.args.list.now.items locks k (get_or locks k 0) now now c.loop-lock.invariant (slice_get-get_or locks k 0 inside) (λ x m. m) (contains_tested now (get_or locks k 0) tested) (λ x m. inl m)

pub loop-lock-preserved : goal.loop-lock-preserved
loop-lock-preserved c =
    let locks = c.args.locks.now in
    let now = c.loop-lock.list.items in
    let k = c.loop-lock.lock-index in
    let lock = get_or locks k 0 in
    let inside : k < length locks = c.loop-lock-test.true in
    let more = c.push.new.self.items in
    locks_more c.args.list.now.items locks k lock now more c.loop-lock.invariant (slice_get-get_or locks k 0 inside)
    (λ x m. subst (λ (xs : List ℕ). Contains xs x) (sym c.in-Ok.ensures.items) (Contains-append_left now (lock ∷ []) x m))
    (subst (λ (xs : List ℕ). Contains xs lock) (sym c.in-Ok.ensures.items) (Contains-push now lock))
    (λ x m. Contains-push_cases now lock x (subst (λ (xs : List ℕ). Contains xs x) c.in-Ok.ensures.items m))

pub returns : goal.returns
returns c = let all : length c.args.locks.now ≤ c.loop-lock.lock-index = c.loop-lock-test.false in locks_all c.args.list.now.items c.args.locks.now c.loop-lock.lock-index c.loop-lock.list.items all c.loop-lock.invariant
