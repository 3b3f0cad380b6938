use Rattle.std.proofs.Common.{◌≡◌, ◌+◌, ◌-◌, ◌<◌, ◌≤◌, ℕ, Some, length, get_or, slice_get, slice_index, sym, subst, arith}
use Rattle.std.specs.Prelude.{Contains, IsTrue}
use Rattle.std.proofs.lemmas.Option.{slice_get-get_or, slice_get_within, get_or_from_slice_get}
use Rattle.pattern_walk.specs.Cycles.{class_of}
use Rattle.pattern_walk.proofs.PatternCycles.{class_at}
use Rattle.pattern_walk.proofs.Ordering.{read_of, lock_below}
use Rattle.pattern_walk.proofs.Walking.{path_pushes, greater_than_first, holds_last, apart_from_each, near_enough}
use Rattle.pattern_walk.proofs.walk.Walk.may_follow.Goals.{then-next-path-via-then-next-path, then-next-path-via-else-next-path+then-not-allows}
use Rattle.pattern_walk.proofs.walk.Walk.may_follow.Goals as goal

pub allows-requires : goal.allows-requires
allows-requires c = lock_below c.args.self.now.classes.now.classes c.args.next c.lock.result (length c.args.near.now.steps.items) c.requires.next c.lock.ensures c.requires.way.locks

pub returns-then-next-path-clause-no : goal.returns-then-next-path-clause-no
returns-then-next-path-clause-no c = λ is q extension.
    let classes = c.args.self.now.classes.now.classes in
    let path = c.args.path.now in
    let next = c.args.next in
    let size = c.args.near.now.size in
    let near = c.args.near.now.steps.items in
    let way = c.requires.way in
    let last = get_or path (length path - 1) 0 in
    let some = slice_get_within path 0 way.start way.begins in
    let ends : slice_get path (length path - 1) ≡ Some last = slice_get-get_or path (length path - 1) 0 (omega arith) in
    let first : get_or path 0 0 ≡ way.start = get_or_from_slice_get path 0 way.start 0 way.begins in
    let greater : way.start < next = greater_than_first classes path way.start last way.begins ends way.path size next q extension in
    let close : slice_index near (class_of classes next).lock + length path ≤ size = near_enough classes path way.start last way.begins ends way.path size next q extension near way.near in
    elim c.then-next-path.branch [
      | then-next-path-via-then-next-path w ↦ (let test = w.if-next-path.true in omega arith)
      | then-next-path-via-else-next-path+then-not-allows w ↦ (
          let is_lock : (class_of classes next).lock ≡ w.lock.result = read_of (λ k. k.lock) classes next w.lock.result w.lock.ensures in
          let near_lock : slice_index near w.lock.result + length path ≤ size = subst (λ (l : ℕ). slice_index near l + length path ≤ size) is_lock close in
          let enough : IsTrue w.allows.result = w.allows.ensures.1 (omega arith) in
          let fails = w.if-not-allows.true in
          cc)
    ]

pub returns-then-holds-clause-yes : goal.returns-then-holds-clause-yes
returns-then-holds-clause-yes c = λ yes.
    let classes = c.args.self.now.classes.now.classes in
    let path = c.args.path.now in
    let next = c.args.next in
    let way = c.requires.way in
    let is : (class_of classes c.last.result).lock ≡ c.lock-lock.result = read_of (λ k. k.lock) classes c.last.result c.lock-lock.result c.lock-lock.ensures in
    let first : get_or path 0 0 ≡ way.start = get_or_from_slice_get path 0 way.start 0 way.begins in
    let greater : way.start < next = (let test = c.if-next-path.false in omega arith) in
    let holds : Contains (class_of classes next).held c.lock-lock.result = (c.holds.ensures (class_of classes next) (class_at classes next c.requires.next)).0 c.if-holds.true in
    path_pushes classes path way.start c.last.result way.begins c.last.ensures way.path next c.requires.next greater (subst (Contains (class_of classes next).held) (sym is) holds) (c.is_apart.ensures.yes yes)

pub returns-then-holds-clause-no : goal.returns-then-holds-clause-no
returns-then-holds-clause-no c = λ is q extension.
    let classes = c.args.self.now.classes.now.classes in
    let way = c.requires.way in
    let other = c.is_apart.ensures.no is in
    other.2 (apart_from_each classes c.args.path.now way.start c.last.result way.begins c.last.ensures way.path c.args.near.now.size c.args.next q extension other.0 other.1)

pub returns-else-holds-clause-no : goal.returns-else-holds-clause-no
returns-else-holds-clause-no c = λ is q extension.
    let classes = c.args.self.now.classes.now.classes in
    let next = c.args.next in
    let way = c.requires.way in
    let is_lock : (class_of classes c.last.result).lock ≡ c.lock-lock.result = read_of (λ k. k.lock) classes c.last.result c.lock-lock.result c.lock-lock.ensures in
    let holds = holds_last classes c.args.path.now way.start c.last.result way.begins c.last.ensures way.path c.args.near.now.size next q extension in
    let told : IsTrue c.holds.result = (c.holds.ensures (class_of classes next) (class_at classes next c.requires.next)).1 (subst (Contains (class_of classes next).held) is_lock holds) in
    let fails = c.if-holds.false in
    cc
