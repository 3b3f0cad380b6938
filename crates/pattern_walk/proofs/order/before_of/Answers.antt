use Rattle.std.proofs.Common.{◌≡◌, ◌<◌, ℕ, List, Some, length, slice_get, sym, ap, subst, ◌∙◌, arith}
use Rattle.std.specs.Prelude.{Contains}
use Rattle.std.proofs.lemmas.Option.{slice_get-get_or}
use Rattle.trace_laws.proofs.Places.{contains_at}
use Rattle.lock_graph.specs.Classes.{HaveLocksBelow}
use Rattle.pattern_walk.specs.Cycles.{class_of}
use Rattle.pattern_walk.specs.Orders.{AreBefore}
use Rattle.pattern_walk.proofs.PatternCycles.{class_at}
use Rattle.pattern_walk.proofs.Linking.{none_unlinked}
use Rattle.pattern_walk.proofs.Ordering.{read_of, lock_below, before_none, before_next, before_past}
use Rattle.pattern_walk.proofs.order.before_of.Goals as goal

pub loop-class-init : goal.loop-class-init
loop-class-init c = before_none c.args.classes.now.classes c.in_ok-before.before.items (subst (HaveLocksBelow c.args.classes.now.classes) (sym c.in_ok-before.ensures.locks) c.locks.ensures.below) c.in_ok-before.ensures.empty

pub loop-class-preserved-then-not-has : goal.loop-class-preserved-then-not-has
loop-class-preserved-then-not-has c =
    let classes = c.args.classes.now.classes in
    let n = c.loop-class.class in
    let size = c.len-class-end.ensures.value in
    let test = c.loop-class-test.true in
    let within : n < length classes = omega arith in
    before_past classes n c.loop-class.before.items c.loop-class.invariant (none_unlinked classes c.args.links.now.flags.items n c.requires within (sym c.has.ensures ∙ c.if-not-has.true))

pub index_mut-requires : goal.index_mut-requires
index_mut-requires c =
    let classes = c.args.classes.now.classes in
    let n = c.loop-class.class in
    let size = c.len-class-end.ensures.value in
    let test = c.loop-class-test.true in
    let own = c.value-lock.ensures.value in
    let below : c.lock.result < length c.loop-class.before.items = lock_below classes n c.lock.result (length c.loop-class.before.items) (omega arith) c.lock.ensures c.loop-class.invariant.locks in
    omega arith

pub loop-class-preserved : goal.loop-class-preserved
loop-class-preserved c =
    let classes = c.args.classes.now.classes in
    let n = c.loop-class.class in
    let before = c.loop-class.before.items in
    let lock = c.value-lock.result in
    let v = c.index_mut.result.now in
    let size = c.len-class-end.ensures.value in
    let test = c.loop-class-test.true in
    let inside : n < length classes = omega arith in
    let is_held : (class_of classes n).held ≡ c.held.result.now = read_of (λ k. k.held) classes n c.held.result.now c.held.ensures in
    let is_lock : (class_of classes n).lock ≡ lock = read_of (λ k. k.lock) classes n c.lock.result c.lock.ensures ∙ sym c.value-lock.ensures.value in
    let listed = contains_at classes n (class_of classes n) (class_at classes n inside) in
    let below = c.loop-class.invariant.locks.lock (class_of classes n) listed in
    let at : slice_get before lock ≡ Some v = slice_get-get_or before lock v (omega arith) ∙ ap Some (sym c.index_mut.ensures.value) in
    before_next classes n lock before c.held.result.now v c.add_locks.new.list is_held is_lock c.loop-class.invariant at c.in_ok-add_locks.ensures
    (λ h m. c.loop-class.invariant.locks.held (class_of classes n) h listed (subst (λ (xs : List ℕ). Contains xs h) (sym is_held) m))

pub returns : goal.returns
returns c =
    let past = c.loop-class-test.false in
    let end = c.loop-class.auto.class-end in
    let size = c.len-class-end.ensures.value in
    let all : c.loop-class.class ≡ length c.args.classes.now.classes = omega arith in
    subst (λ (n : ℕ). AreBefore c.args.classes.now.classes n c.loop-class.before.items) all c.loop-class.invariant
