use Rattle.std.proofs.Common.{◌≡◌, ◌<◌, ◌≤◌, ℕ, List, length, refl, sym, subst, ◌∙◌, arith}
use Rattle.std.specs.Prelude.{Contains}
use Rattle.trace_laws.proofs.Places.{contains_at}
use Rattle.pattern_walk.specs.Cycles.{class_of}
use Rattle.pattern_walk.proofs.PatternCycles.{class_at}
use Rattle.pattern_walk.proofs.Ordering.{read_of}
use Rattle.pattern_walk.proofs.Nearing.{near_first, near_next}
use Rattle.pattern_walk.proofs.near.Near.fill.Goals as goal

pub lower-requires : goal.lower-requires
lower-requires c = λ l m.
    let classes = c.args.classes.now.classes in
    let start = c.args.start in
    let is : (class_of classes start).held ≡ c.held.result.now = read_of (λ k. k.held) classes start c.held.result.now c.held.ensures in
    let below = c.requires.before.locks.held (class_of classes start) l (contains_at classes start (class_of classes start) (class_at classes start c.requires.start)) (subst (λ (xs : List ℕ). Contains xs l) (sym is) m) in
    let size = c.fill.ensures.len in
    let locks = c.requires.locks in
    omega arith

pub loop-step-init : goal.loop-step-init
loop-step-init c =
    let classes = c.args.classes.now.classes in
    let start = c.args.start in
    let is : (class_of classes start).held ≡ c.held.result.now = read_of (λ k. k.held) classes start c.held.result.now c.held.ensures in
    let size = c.fill.ensures.len in
    let locks = c.requires.locks in
    let same = c.lower.ensures.lowered.size in
    record {
      locks = omega arith;
      size = refl;
      near = near_first classes start c.args.size c.lower.new.steps.items (λ l m. c.lower.ensures.reached l (subst (λ (xs : List ℕ). Contains xs l) is m));
    }

pub loop-step-preserved : goal.loop-step-preserved
loop-step-preserved c =
    let classes = c.args.classes.now.classes in
    let at = c.loop-step in
    let before = c.args.before.now in
    let least : 1 ≤ at.step = omega arith in
    let few : (n : ℕ) → n < length classes → (class_of classes n).lock < length before = λ n within. c.requires.before.locks.lock (class_of classes n) (contains_at classes n (class_of classes n) (class_at classes n within)) in
    record {
      locks = c.spread.ensures.lowered.size ∙ at.invariant.locks;
      size = at.invariant.size;
      near = near_next classes c.args.start c.args.size at.step at.self.steps.items c.spread.new.steps.items before least c.requires.before few c.spread.ensures.lowered c.spread.ensures.reached at.invariant.near;
    }
