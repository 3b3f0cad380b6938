use Rattle.std.proofs.Common.{◌≡◌, Ok, arith}
use Rattle.trace_laws.proofs.Places.{contains_at}
use Rattle.pattern_walk.specs.Listed.{AreListedPatterns}
use Rattle.pattern_walk.proofs.Counted.{of_listed}
use Rattle.pattern_walk.proofs.tests.test_pattern.Goals as goal

pub check-requires-clause-pattern : goal.check-requires-clause-pattern
check-requires-clause-pattern g c =
    let graph = c.expect-classes.result in
    let listed = c.expect-patterns.result in
    let pattern = c.get-pattern.result.now in
    let is : c.list.result ≡ Ok listed = c.expect-patterns.ensures in
    let are : AreListedPatterns graph 3 listed = (let told = c.list.ensures.patterns in rw is at told) in
    of_listed graph 3 listed pattern are (omega arith) (contains_at listed 0 pattern c.get-pattern.ensures)
