use Rattle.std.proofs.Common.{◌≡◌, Some, arith}
use Rattle.std.specs.Prelude.{slice_get, slice_index_or}
use Rattle.std.proofs.lemmas.Option.{slice_get-get_or}
use Rattle.race_scan.proofs.Adding.{own_from_group, groups_next, groups_all}
use Rattle.race_scan.proofs.finding.list_groups.Goals as goal

pub list_group-requires-clause-own : goal.list_group-requires-clause-own
list_group-requires-clause-own c =
    let groups = c.args.groups.now in
    let i = c.loop-group.group in
    let g = slice_index_or groups i c.index-groups-group.result in
    let test = c.loop-group-test.true in
    let end = c.loop-group.auto.group-end in
    let at : slice_get groups i ≡ Some g = slice_get-get_or groups i c.index-groups-group.result (omega arith) in
    own_from_group c.args.index.now.events g c.deref.result.now c.deref.ensures.value (c.requires.groups.each i g at)

pub loop-group-preserved : goal.loop-group-preserved
loop-group-preserved c =
    let events = c.args.index.now.events in
    let groups = c.args.groups.now in
    let i = c.loop-group.group in
    let g = slice_index_or groups i c.index-groups-group.result in
    let test = c.loop-group-test.true in
    let end = c.loop-group.auto.group-end in
    let at : slice_get groups i ≡ Some g = slice_get-get_or groups i c.index-groups-group.result (omega arith) in
    record {
      trace = c.list_group.ensures.trace;
      size = c.list_group.ensures.size;
      adds = groups_next events groups i c.args.var g c.deref.result.now c.args.races.now.items c.loop-group.races.items c.list_group.new.races.items at c.deref.ensures.value c.loop-group.invariant.adds c.in_ok-list_group.ensures.adds;
    }

pub returns-clause-adds : goal.returns-clause-adds
returns-clause-adds c = groups_all c.args.index.now.events c.args.groups.now c.loop-group.group c.args.var c.args.races.now.items c.loop-group.races.items c.requires.groups (let past = c.loop-group-test.false in omega arith) c.loop-group.invariant.adds
