use Rattle.std.proofs.Common.{◌≡◌, ◌<◌, ◌∷◌, ◌++◌, [], ℕ, List, Some, length, get_or, slice_get, sym, ap, subst, ◌∙◌, arith}
use Rattle.std.specs.Prelude.{Contains, IsTrue}
use Rattle.std.proofs.lemmas.Option.{slice_get-get_or, slice_get_within}
use Rattle.sp_base.specs.declared.limits.TheConstants.{MAX_PATTERNS}
use Rattle.pattern_walk.specs.Cycles.{class_of, IsCycle}
use Rattle.pattern_walk.specs.Walks.{Extends}
use Rattle.pattern_walk.proofs.PatternCycles.{class_at}
use Rattle.pattern_walk.proofs.Ordering.{read_of}
use Rattle.pattern_walk.proofs.Walking.{path_closes}
use Rattle.pattern_walk.proofs.Extending.{extends_by_none, extends_by_one, one_too_many}
use Rattle.pattern_walk.proofs.walk.Walk.close.Goals as goal

pub returns-then-not-holds-clause-ok : goal.returns-then-not-holds-clause-ok
returns-then-not-holds-clause-ok c = extends_by_none c.args.self.now.classes.now.classes c.args.near.now.size c.args.path.now c.args.found.now.items c.requires.found c.requires.whole (λ cycle.
    let classes = c.args.self.now.classes.now.classes in
    let path = c.args.path.now in
    let way = c.requires.way in
    let first = get_or path 0 0 in
    let at : slice_get path 0 ≡ Some first = slice_get-get_or path 0 0 (slice_get_within path 0 way.start way.begins) in
    let is : (class_of classes c.last.result).lock ≡ c.lock-lock.result = read_of (λ k. k.lock) classes c.last.result c.lock-lock.result c.lock-lock.ensures in
    let told : IsTrue c.holds.result = (c.holds.ensures (class_of classes first) (class_at classes first (way.path.within 0 first at))).1 (subst (Contains (class_of classes first).held) is (cycle.closes first c.last.result at c.last.ensures)) in
    let fails = c.if-not-holds.true in
    cc)

pub returns-then-len-clause-many : goal.returns-then-len-clause-many
returns-then-len-clause-many c = λ is.
    let classes = c.args.self.now.classes.now.classes in
    let path = c.args.path.now in
    let way = c.requires.way in
    let whole = c.requires.whole in
    let least = way.least in
    let first = get_or path 0 0 in
    let at : slice_get path 0 ≡ Some first = slice_get-get_or path 0 0 (slice_get_within path 0 way.start way.begins) in
    let is_lock : (class_of classes c.last.result).lock ≡ c.lock-lock.result = read_of (λ k. k.lock) classes c.last.result c.lock-lock.result c.lock-lock.ensures in
    let holds = (c.holds.ensures (class_of classes first) (class_at classes first (way.path.within 0 first at))).0 c.if-not-holds.false in
    let cycle : IsCycle classes path = path_closes classes path first c.last.result (omega arith) way.path at c.last.ensures (subst (Contains (class_of classes first).held) (sym is_lock) holds) in
    let test = c.if-len.true in
    let size = c.len.ensures in
    one_too_many classes c.args.near.now.size path c.args.found.now.items c.requires.found whole cycle c.requires.behind (omega arith)

pub returns-clause-ok : goal.returns-clause-ok
returns-clause-ok c =
    let classes = c.args.self.now.classes.now.classes in
    let path = c.args.path.now in
    let found = c.args.found.now.items in
    let way = c.requires.way in
    let whole = c.requires.whole in
    let least = way.least in
    let first = get_or path 0 0 in
    let at : slice_get path 0 ≡ Some first = slice_get-get_or path 0 0 (slice_get_within path 0 way.start way.begins) in
    let is_lock : (class_of classes c.last.result).lock ≡ c.lock-lock.result = read_of (λ k. k.lock) classes c.last.result c.lock-lock.result c.lock-lock.ensures in
    let holds = (c.holds.ensures (class_of classes first) (class_at classes first (way.path.within 0 first at))).0 c.if-not-holds.false in
    let cycle : IsCycle classes path = path_closes classes path first c.last.result (omega arith) way.path at c.last.ensures (subst (Contains (class_of classes first).held) (sym is_lock) holds) in
    let few = c.requires.found.few in
    let test = c.if-len.false in
    let size = c.len.ensures in
    let room : length found < MAX_PATTERNS = omega (arith, test) in
    let more : c.push.new.self.items ≡ found ++ path ∷ [] = c.in-Ok-push.ensures.items ∙ ap (λ (p : List ℕ). found ++ p ∷ []) c.in-Ok.ensures in
    subst (Extends classes c.args.near.now.size path found) (sym more) (extends_by_one classes c.args.near.now.size path found c.requires.found whole cycle c.requires.behind room)
