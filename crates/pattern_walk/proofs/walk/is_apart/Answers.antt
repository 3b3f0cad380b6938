use Rattle.std.proofs.Common.{◌≡◌, ◌<◌, ◌≤◌, Some, length, get_or, slice_get, arith}
use Rattle.std.proofs.lemmas.List.Elements.{Contains-get_or}
use Rattle.std.proofs.lemmas.Option.{slice_get-get_or, slice_get_within}
use Rattle.trace_laws.specs.Patterns.{AreApart}
use Rattle.trace_laws.proofs.Places.{index_of}
use Rattle.pattern_walk.specs.Cycles.{class_of}
use Rattle.pattern_walk.proofs.PatternCycles.{class_at}
use Rattle.pattern_walk.proofs.Walking.{apart_more}
use Rattle.pattern_walk.proofs.walk.is_apart.Goals as goal

pub returns-then-not-apart-clause-no : goal.returns-then-not-apart-clause-no
returns-then-not-apart-clause-no c = λ is.
    let classes = c.args.classes.now.classes in
    let path = c.args.path.now in
    let k = c.loop-class.class-index in
    let n = get_or path k 0 in
    let inside : k < length path = c.loop-class-test.true in
    let within = c.requires.path.within k n (slice_get-get_or path k 0 inside) in
    let tells = c.apart.ensures (class_of classes n) (class_of classes c.args.next) (class_at classes n within) (class_at classes c.args.next c.requires.next) in
    (n, Contains-get_or path k 0 inside, λ apart. (let passes = tells.1 apart in let fails = c.if-not-apart.true in cc))

pub loop-class-preserved : goal.loop-class-preserved
loop-class-preserved c = λ i m less at.
    let classes = c.args.classes.now.classes in
    let path = c.args.path.now in
    let k = c.loop-class.class-index in
    let n = get_or path k 0 in
    let inside : k < length path = c.loop-class-test.true in
    let at_n : slice_get path k ≡ Some n = slice_get-get_or path k 0 inside in
    let within = c.requires.path.within k n at_n in
    let tells = c.apart.ensures (class_of classes n) (class_of classes c.args.next) (class_at classes n within) (class_at classes c.args.next c.requires.next) in
    let here : AreApart (class_of classes n) (class_of classes c.args.next) = tells.0 c.if-not-apart.false in
    apart_more classes path k n c.args.next c.loop-class.invariant at_n here i m less at

pub returns-clause-yes : goal.returns-clause-yes
returns-clause-yes c = λ is n m. let at = index_of c.args.path.now n m in let within = slice_get_within c.args.path.now at.0 n at.1 in let all : length c.args.path.now ≤ c.loop-class.class-index = c.loop-class-test.false in c.loop-class.invariant at.0 n (omega arith) at.1
