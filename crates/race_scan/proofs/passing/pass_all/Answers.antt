use Rattle.std.proofs.Common.{◌≡◌, ℕ, List, Some, sym, subst, arith}
use Rattle.std.specs.Prelude.{slice_get, slice_index, slice_index_or}
use Rattle.std.proofs.lemmas.Option.{slice_get-get_or}
use Rattle.trace_laws.proofs.Places.{within_from_thread}
use Rattle.race_scan.proofs.Pointers.{passed_set, ready_set, head_within}
use Rattle.race_scan.proofs.passing.pass_all.Goals as goal

pub pass-requires-clause-places : goal.pass-requires-clause-places
pass-requires-clause-places c = λ k e at.
    let groups = c.args.groups.now in
    let i = c.loop-group.group in
    let g = slice_index_or groups i c.index-groups-group.result in
    let test = c.loop-group-test.true in
    let end = c.loop-group.auto.group-end in
    let group_at : slice_get groups i ≡ Some g = slice_get-get_or groups i c.index-groups-group.result (omega arith) in
    within_from_thread c.args.index.now.events e g.thread ((c.requires.groups i g group_at).of_thread k e (subst (λ (xs : List ℕ). slice_get xs k ≡ Some e) c.deref.ensures.value at))

pub loop-group-preserved : goal.loop-group-preserved
loop-group-preserved c =
    let events = c.args.index.now.events in
    let later = c.args.later in
    let groups = c.args.groups.now in
    let passed = c.loop-group.passed in
    let i = c.loop-group.group in
    let g = slice_index_or groups i c.index-groups-group.result in
    let start = slice_index passed i in
    let next = c.pass.result in
    let test = c.loop-group-test.true in
    let end = c.loop-group.auto.group-end in
    let size = c.loop-group.invariant.passed.size in
    let group_at : slice_get groups i ≡ Some g = slice_get-get_or groups i c.index-groups-group.result (omega arith) in
    let start_at : slice_get passed i ≡ Some start = slice_get-get_or passed i 0 (omega arith) in
    record {
      passed = passed_set groups passed i next g group_at size events later start c.loop-group.invariant.passed start_at
          (λ k e after less at. c.pass.ensures.passed k e after less (subst (λ (xs : List ℕ). slice_get xs k ≡ Some e) (sym c.deref.ensures.value) at));
      ready = λ j e less. ready_set events later groups passed i next g group_at size (λ d at. c.pass.ensures.conflict d (subst (λ (xs : List ℕ). slice_get xs next ≡ Some d) (sym c.deref.ensures.value) at)) j e (λ other. c.loop-group.invariant.ready j e (omega (arith, other)));
    }

pub returns-clause-ready : goal.returns-clause-ready
returns-clause-ready c = λ i e head. c.loop-group.invariant.ready i e (let h = head_within c.args.groups.now c.loop-group.passed i e head in let past = c.loop-group-test.false in omega arith) head
