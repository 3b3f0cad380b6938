use Rattle.std.proofs.Common.{◌≡◌, ◌-◌, ◌<◌, ℕ, List, Some, length, slice_get, sym, ap, subst, ◌∙◌, arith}
use Rattle.std.specs.Prelude.{Contains}
use Rattle.std.proofs.lemmas.Option.{slice_get-get_or}
use Rattle.trace_laws.specs.Reordering.{Rises}
use Rattle.trace_laws.proofs.Places.{contains_at}
use Rattle.pattern_walk.specs.Cycles.{class_of}
use Rattle.pattern_walk.proofs.Ordering.{read_of, lock_below}
use Rattle.pattern_walk.proofs.Walking.{holds_last}
use Rattle.pattern_walk.proofs.Extending.{goes_with}
use Rattle.pattern_walk.proofs.walk.Walk.candidates.Goals as goal

pub index-requires : goal.index-requires
index-requires c =
    let holders = c.args.self.now.order.holders.items in
    let last = c.requires.path.within (length c.args.path.now - 1) c.last.result c.last.ensures in
    let own = c.value.ensures.value in
    let below : c.lock-lock.result < length holders = lock_below c.args.self.now.classes.now.classes c.last.result c.lock-lock.result (length holders) last c.lock-lock.ensures c.requires.ready.holders.locks in
    omega arith

pub returns-clause-order : goal.returns-clause-order
returns-clause-order c =
    let holders = c.args.self.now.order.holders.items in
    let last = c.requires.path.within (length c.args.path.now - 1) c.last.result c.last.ensures in
    let below = subst (λ (l : ℕ). l < length holders) (sym c.value.ensures.value) (lock_below c.args.self.now.classes.now.classes c.last.result c.lock-lock.result (length holders) last c.lock-lock.ensures c.requires.ready.holders.locks) in
    let at : slice_get holders c.value.result ≡ Some c.index.result.now = slice_get-get_or holders c.value.result c.index.result.now below ∙ ap Some (sym c.index.ensures) in
    subst Rises (sym c.deref.ensures.value) (c.requires.ready.holders.each c.value.result c.index.result.now at).order

pub returns-clause-within : goal.returns-clause-within
returns-clause-within c = λ n m.
    let holders = c.args.self.now.order.holders.items in
    let last = c.requires.path.within (length c.args.path.now - 1) c.last.result c.last.ensures in
    let below = subst (λ (l : ℕ). l < length holders) (sym c.value.ensures.value) (lock_below c.args.self.now.classes.now.classes c.last.result c.lock-lock.result (length holders) last c.lock-lock.ensures c.requires.ready.holders.locks) in
    let at : slice_get holders c.value.result ≡ Some c.index.result.now = slice_get-get_or holders c.value.result c.index.result.now below ∙ ap Some (sym c.index.ensures) in
    ((c.requires.ready.holders.each c.value.result c.index.result.now at).only n (subst (λ (xs : List ℕ). Contains xs n) c.deref.ensures.value m)).0

pub returns-clause-all : goal.returns-clause-all
returns-clause-all c = λ q n extension at_n.
    let classes = c.args.self.now.classes.now.classes in
    let path = c.args.path.now in
    let holders = c.args.self.now.order.holders.items in
    let last = c.requires.path.within (length c.args.path.now - 1) c.last.result c.last.ensures in
    let below = subst (λ (l : ℕ). l < length holders) (sym c.value.ensures.value) (lock_below classes c.last.result c.lock-lock.result (length holders) last c.lock-lock.ensures c.requires.ready.holders.locks) in
    let at : slice_get holders c.value.result ≡ Some c.index.result.now = slice_get-get_or holders c.value.result c.index.result.now below ∙ ap Some (sym c.index.ensures) in
    let is : (class_of classes c.last.result).lock ≡ c.value.result = read_of (λ k. k.lock) classes c.last.result c.lock-lock.result c.lock-lock.ensures ∙ sym c.value.ensures.value in
    let holds = holds_last classes path c.requires.start c.last.result c.requires.begins c.last.ensures c.requires.path c.args.near.now.size n q (goes_with q extension at_n) in
    let listed = (c.requires.ready.holders.each c.value.result c.index.result.now at).all n (extension.cycle.path.within (length path) n at_n) (record { cycle = q; is = extension.cycle; member = contains_at q (length path) n at_n }) (subst (Contains (class_of classes n).held) is holds) in
    subst (λ (xs : List ℕ). Contains xs n) (sym c.deref.ensures.value) listed
