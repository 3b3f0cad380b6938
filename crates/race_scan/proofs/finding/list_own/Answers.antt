use Rattle.std.proofs.Common.{arith}
use Rattle.std.specs.Prelude.{slice_index}
use Rattle.std.proofs.lemmas.Option.{slice_get-get_or}
use Rattle.trace_laws.proofs.Places.{within_from_thread}
use Rattle.race_scan.proofs.Adding.{own_next, own_all, passed_along}
use Rattle.race_scan.proofs.finding.list_own.Goals as goal

pub list_place-requires-clause-later : goal.list_place-requires-clause-later
list_place-requires-clause-later c =
    let own = c.args.own.now in
    let k = c.loop-position.position in
    let test = c.loop-position-test.true in
    let end = c.loop-position.auto.position-end in
    let at = slice_get-get_or own k 0 (omega arith) in
    within_from_thread c.args.index.now.events (slice_index own k) c.requires.own.thread (c.requires.own.is_of k (slice_index own k) at)

pub list_place-requires-clause-passed : goal.list_place-requires-clause-passed
list_place-requires-clause-passed c =
    let own = c.args.own.now in
    let k = c.loop-position.position in
    let test = c.loop-position-test.true in
    let end = c.loop-position.auto.position-end in
    let at = slice_get-get_or own k 0 (omega arith) in
    c.loop-position.invariant.passed k (slice_index own k) (omega arith) at

pub loop-position-preserved : goal.loop-position-preserved
loop-position-preserved c =
    let events = c.args.index.now.events in
    let own = c.args.own.now in
    let op = c.args.op.now in
    let groups = c.args.groups.now in
    let k = c.loop-position.position in
    let place = slice_index own k in
    let new = c.list_place.new in
    let test = c.loop-position-test.true in
    let end = c.loop-position.auto.position-end in
    let at = slice_get-get_or own k 0 (omega arith) in
    record {
      trace = c.list_place.ensures.trace;
      size = c.list_place.ensures.size;
      passed = λ j p after there. passed_along events own groups new.passed op k place j p c.requires.own at c.list_place.ensures.passed after there;
      adds = own_next events own k place op c.args.races.now.items c.loop-position.races.items new.races.items at c.loop-position.invariant.adds c.in_ok-list_place.ensures.adds;
    }

pub returns-clause-adds : goal.returns-clause-adds
returns-clause-adds c = own_all c.args.index.now.events c.args.own.now c.loop-position.position c.args.op.now c.args.races.now.items c.loop-position.races.items (let past = c.loop-position-test.false in omega arith) c.loop-position.invariant.adds
