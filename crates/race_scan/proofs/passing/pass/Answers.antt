use Rattle.std.proofs.Common.{◌≤◌, arith}
use Rattle.std.specs.Prelude.{slice_index_or}
use Rattle.std.proofs.lemmas.Option.{slice_get-get_or, slice_get_within}
use Rattle.race_scan.specs.Passed.{IsOut}
use Rattle.race_scan.proofs.Pointers.{passed_one_more}
use Rattle.race_scan.proofs.passing.pass.Goals as goal

pub loop-position-preserved : goal.loop-position-preserved
loop-position-preserved c =
    let at = c.loop-position.position in
    let places = c.args.places.now in
    let test = c.loop-position-test.true in
    let from : c.args.start ≤ at = c.loop-position.invariant.from in
    let place = slice_index_or places at 0 in
    record {
      from = omega arith;
      passed = passed_one_more (IsOut c.args.index.now.events c.args.later) places c.args.start at place (slice_get-get_or places at 0 (omega arith)) c.loop-position.invariant.passed (c.is_out.ensures.out c.if-not-is_out.false);
    }

pub returns-clause-conflict : goal.returns-clause-conflict
returns-clause-conflict c = λ e at less. absurd (let w = slice_get_within c.args.places.now c.loop-position.position e at in let past = c.loop-position-test.false in omega arith)
