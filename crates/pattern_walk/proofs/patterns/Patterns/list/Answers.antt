use Rattle.std.proofs.Common.{◌≡◌, ◌+◌, ◌≤◌, ℕ, Err, subst, arith}
use Rattle.std.proofs.lemmas.Result.{err_from_is_err_and}
use Rattle.lock_graph.specs.Classes.{Graph}
use Rattle.pattern_walk.specs.declared.patterns.WalkFault.TheVariants.{TooManyPatterns}
use Rattle.pattern_walk.specs.Walks.{FoundBelow, HasMoreCycles}
use Rattle.pattern_walk.proofs.Counted.{is_listed, is_all, more_patterns, more_up_to}
use Rattle.pattern_walk.proofs.patterns.Patterns.list.Goals as goal

pub returns-in_err-of_size-clause-many : goal.returns-in_err-of_size-clause-many
returns-in_err-of_size-clause-many c = λ is.
    let graph = c.args.classes.now in
    let size = c.args.size in
    let length = c.loop-length.length in
    let p = err_from_is_err_and c.from_residual-in_err-of_size.result c.from_residual-in_err-of_size.ensures.1 in
    let was = c.in_err-of_size.was in
    let many : c.of_size.result ≡ Err TooManyPatterns = cc in
    let inside : length ≤ size = (let test = c.loop-length-test.true in omega arith) in
    more_patterns graph.trace.events graph.classes c.len.ensures.classes size
    (more_up_to graph.classes length size inside (subst (λ (g : Graph). HasMoreCycles g.classes length) c.in_ok-walk.ensures.classes (c.of_size.ensures.many many)))

pub returns-clause-patterns : goal.returns-clause-patterns
returns-clause-patterns c =
    let graph = c.args.classes.now in
    let found = c.loop-length.found.items in
    let least = c.requires.least in
    let past = c.loop-length-test.false in
    let from = c.loop-length.auto.length in
    let upto = c.loop-length.auto.length-end in
    let end : c.loop-length.length ≡ c.args.size + 1 = omega arith in
    is_listed graph c.args.size found c.len.ensures.classes (subst (λ (n : ℕ). FoundBelow graph.classes n 0 found) end (subst (λ (g : Graph). FoundBelow g.classes c.loop-length.length 0 found) c.in_ok-walk.ensures.classes c.loop-length.invariant.found))

pub returns-clause-few : goal.returns-clause-few
returns-clause-few c =
    let graph = c.args.classes.now in
    let found = c.loop-length.found.items in
    let least = c.requires.least in
    let past = c.loop-length-test.false in
    let from = c.loop-length.auto.length in
    let upto = c.loop-length.auto.length-end in
    let end : c.loop-length.length ≡ c.args.size + 1 = omega arith in
    is_all graph c.args.size found c.len.ensures.classes (subst (λ (n : ℕ). FoundBelow graph.classes n 0 found) end (subst (λ (g : Graph). FoundBelow g.classes c.loop-length.length 0 found) c.in_ok-walk.ensures.classes c.loop-length.invariant.found))
