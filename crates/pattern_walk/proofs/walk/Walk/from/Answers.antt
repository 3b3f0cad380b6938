use Rattle.std.proofs.Common.{◌∷◌, [], ℕ, List, length, sym, ap, subst, ◌∙◌, arith}
use Rattle.std.specs.Prelude.{Vec}
use Rattle.std.specs.declared.alloc.Global.{Global}
use Rattle.std.proofs.lemmas.Result.{on_ok_weaker}
use Rattle.lock_graph.specs.Classes.{HaveLocksBelow}
use Rattle.pattern_walk.specs.Cycles.{BeginsWith}
use Rattle.pattern_walk.specs.Nearness.{IsNear}
use Rattle.pattern_walk.specs.Walks.{IsOnWay, Extends}
use Rattle.pattern_walk.proofs.Walking.{begins_along}
use Rattle.pattern_walk.proofs.Extending.{behind_start, below_next}
use Rattle.pattern_walk.proofs.walk.Walk.from.Goals as goal

pub extend-requires-clause-way : goal.extend-requires-clause-way
extend-requires-clause-way c =
    let classes = c.args.self.now.classes.now.classes in
    let known = c.fill.new.self in
    let start = c.args.start in
    let same = c.fill.ensures.size in
    let least = c.requires.least in
    let most = c.requires.most in
    subst (IsOnWay c.args.self.now known) (sym c.in-Ok.ensures.items)
    (begins_along c.args.self.now known start c.requires.ready c.requires.start (omega arith) (omega arith) (subst (HaveLocksBelow classes) (sym (c.fill.ensures.locks ∙ ap (λ (v : List (Vec ℕ Global)). length v) c.deref.ensures.value)) c.requires.ready.before.locks) (subst (λ (s : ℕ). IsNear classes start s known.steps.items) (sym same) c.fill.ensures.near))

pub extend-requires-clause-behind : goal.extend-requires-clause-behind
extend-requires-clause-behind c = λ p q m long begins. behind_start c.args.self.now.classes.now.classes c.args.size c.args.start c.args.found.now.items c.requires.found p q m (long ∙ c.fill.ensures.size) (subst (BeginsWith q) c.in-Ok.ensures.items begins)

pub returns-clause-ok : goal.returns-clause-ok
returns-clause-ok c =
    let classes = c.args.self.now.classes.now.classes in
    let found = c.args.found.now.items in
    let new = c.extend.new.found.items in
    let start = c.args.start in
    on_ok_weaker c.extend.result
    (λ (e : Extends classes c.fill.new.self.size c.in-Ok.path.items found new).
    below_next classes c.args.size start found new c.requires.found (subst (λ (s : ℕ). Extends classes s (start ∷ []) found new) c.fill.ensures.size (subst (λ (xs : List ℕ). Extends classes c.fill.new.self.size xs found new) c.in-Ok.ensures.items e)))
    c.extend.ensures.ok
