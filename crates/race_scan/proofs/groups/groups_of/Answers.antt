use Rattle.std.proofs.Common.{arith}
use Rattle.std.specs.Prelude.{slice_index}
use Rattle.std.proofs.lemmas.Option.{slice_get-get_or}
use Rattle.trace_laws.proofs.Places.{access_within, contains_at}
use Rattle.race_scan.proofs.Grouping.{noted_step, noted_all}
use Rattle.race_scan.proofs.groups.groups_of.Goals as goal

pub thread_of-requires : goal.thread_of-requires
thread_of-requires c =
    let places = c.accesses-places.result.now in
    let k = c.loop-position.position in
    let test = c.loop-position-test.true in
    let end = c.loop-position.auto.position-end in
    let at = slice_get-get_or places k 0 (omega arith) in
    access_within c.args.index.now.events (slice_index places k) c.args.var ((c.accesses-places.ensures.members (slice_index places k)).0 (contains_at places k (slice_index places k) at))

pub loop-position-preserved : goal.loop-position-preserved
loop-position-preserved c =
    let events = c.args.index.now.events in
    let places = c.accesses-places.result.now in
    let k = c.loop-position.position in
    let place = slice_index places k in
    let test = c.loop-position-test.true in
    let end = c.loop-position.auto.position-end in
    let at = slice_get-get_or places k 0 (omega arith) in
    noted_step events places k c.thread_of.result place c.loop-position.groups.items c.note.new.groups.items c.accesses-places.ensures.order at c.thread_of.ensures c.loop-position.invariant c.in_ok-note.ensures

pub returns : goal.returns
returns c = noted_all c.args.index.now.events c.args.var c.loop-position.position c.accesses-places.result.now c.loop-position.groups.items c.accesses-places.ensures c.loop-position-test.false c.loop-position.invariant
