use Rattle.std.proofs.Common.{◌≡◌, ◌<◌, ℕ, List, length, sym, subst, ◌∙◌, arith}
use Rattle.std.specs.Prelude.{Contains}
use Rattle.trace_laws.specs.Reordering.{Rises}
use Rattle.trace_laws.proofs.Places.{contains_at}
use Rattle.lock_graph.specs.Classes.{HaveLocksBelow}
use Rattle.pattern_walk.specs.Cycles.{class_of}
use Rattle.pattern_walk.specs.Orders.{AreHolders}
use Rattle.pattern_walk.proofs.PatternCycles.{class_at}
use Rattle.pattern_walk.proofs.Linking.{none_unlinked}
use Rattle.pattern_walk.proofs.Ordering.{read_of, holders_none, holders_next, holders_past}
use Rattle.pattern_walk.proofs.order.holders_of.Goals as goal

pub loop-class-init : goal.loop-class-init
loop-class-init c = holders_none c.args.classes.now.classes c.in_ok-holders.holders.items (subst (HaveLocksBelow c.args.classes.now.classes) (sym c.in_ok-holders.ensures.locks) c.locks.ensures.below) c.in_ok-holders.ensures.empty

pub loop-class-preserved-then-not-has : goal.loop-class-preserved-then-not-has
loop-class-preserved-then-not-has c =
    let classes = c.args.classes.now.classes in
    let n = c.loop-class.class in
    let size = c.len-class-end.ensures.value in
    let test = c.loop-class-test.true in
    let within : n < length classes = omega arith in
    holders_past classes n c.loop-class.holders.items c.loop-class.invariant (none_unlinked classes c.args.links.now.flags.items n c.requires within (sym c.has.ensures ∙ c.if-not-has.true))

pub add_holder-requires-clause-order : goal.add_holder-requires-clause-order
add_holder-requires-clause-order c =
    let classes = c.args.classes.now.classes in
    let n = c.loop-class.class in
    let size = c.len-class-end.ensures.value in
    let test = c.loop-class-test.true in
    let within : n < length classes = omega arith in
    let is : (class_of classes n).held ≡ c.held.result.now = read_of (λ k. k.held) classes n c.held.result.now c.held.ensures in
    subst Rises is ((c.len-class-end.ensures.classes.members (class_of classes n)).0 (contains_at classes n (class_of classes n) (class_at classes n within))).held

pub add_holder-requires-clause-below : goal.add_holder-requires-clause-below
add_holder-requires-clause-below c = λ l m.
    let classes = c.args.classes.now.classes in
    let n = c.loop-class.class in
    let size = c.len-class-end.ensures.value in
    let test = c.loop-class-test.true in
    let within : n < length classes = omega arith in
    let is : (class_of classes n).held ≡ c.held.result.now = read_of (λ k. k.held) classes n c.held.result.now c.held.ensures in
    c.loop-class.invariant.locks.held (class_of classes n) l (contains_at classes n (class_of classes n) (class_at classes n within)) (subst (λ (xs : List ℕ). Contains xs l) (sym is) m)

pub loop-class-preserved : goal.loop-class-preserved
loop-class-preserved c =
    let classes = c.args.classes.now.classes in
    let n = c.loop-class.class in
    let is : (class_of classes n).held ≡ c.held.result.now = read_of (λ k. k.held) classes n c.held.result.now c.held.ensures in
    holders_next classes n c.loop-class.holders.items c.add_holder.new.holders.items c.held.result.now is c.loop-class.invariant c.in_ok-add_holder.ensures

pub returns : goal.returns
returns c =
    let past = c.loop-class-test.false in
    let end = c.loop-class.auto.class-end in
    let size = c.len-class-end.ensures.value in
    let all : c.loop-class.class ≡ length c.args.classes.now.classes = omega arith in
    subst (λ (n : ℕ). AreHolders c.args.classes.now.classes n c.loop-class.holders.items) all c.loop-class.invariant
