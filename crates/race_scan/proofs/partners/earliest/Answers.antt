use Rattle.std.proofs.Common.{◌≡◌, ℕ, List, Some, ap, ◌∙◌, arith}
use Rattle.std.specs.Prelude.{slice_get, slice_index, slice_index_or}
use Rattle.std.proofs.lemmas.Option.{slice_get-get_or}
use Rattle.race_scan.proofs.Pointers.{least_then, least_else, head_within}
use Rattle.race_scan.proofs.partners.earliest.Goals as goal
use Rattle.race_scan.proofs.partners.earliest.Goals.{then-place-bound, else-place-bound}

pub loop-group-preserved : goal.loop-group-preserved
loop-group-preserved c =
    let groups = c.args.groups.now in
    let passed = c.args.passed.now in
    let later = c.args.later in
    let i = c.loop-group.group in
    let g = slice_index_or groups i c.index-groups-group.result in
    let n = slice_index passed i in
    let size = c.requires in
    let test = c.loop-group-test.true in
    let end = c.loop-group.auto.group-end in
    let place = c.place_or-place.result in
    let at : slice_get groups i ≡ Some g = slice_get-get_or groups i c.index-groups-group.result (omega arith) in
    let is : slice_get passed i ≡ Some n = slice_get-get_or passed i 0 (omega arith) in
    let here : place ≡ slice_index_or g.places.items n later = c.place_or-place.ensures ∙ ap (λ (xs : List ℕ). slice_index_or xs n later) c.deref.ensures.value in
    elim c.if-place-bound.branch [
      | then-place-bound w ↦ rw w.best-is (rw w.bound-is (least_then groups passed later c.loop-group.best c.loop-group.bound i n place g c.loop-group.invariant at is here w.if-place-bound.true))
      | else-place-bound w ↦ rw w.best-is (rw w.bound-is (least_else groups passed later c.loop-group.best c.loop-group.bound i n place g c.loop-group.invariant at is here w.if-place-bound.false))
    ]

pub returns-then-bound-later-clause-none : goal.returns-then-bound-later-clause-none
returns-then-bound-later-clause-none c = λ i e head.
    let least = c.loop-group.invariant.least i e (let h = head_within c.args.groups.now c.args.passed.now i e head in let past = c.loop-group-test.false in omega arith) head in
    let same = c.if-bound-later.true in
    omega arith

pub returns-clause-group : goal.returns-clause-group
returns-clause-group c =
    let other = c.if-bound-later.false in
    let within = c.loop-group.invariant.within in
    head_within c.args.groups.now c.args.passed.now c.loop-group.best c.loop-group.bound (c.loop-group.invariant.head (omega arith))

pub returns-clause-some : goal.returns-clause-some
returns-clause-some c =
    let other = c.if-bound-later.false in
    let within = c.loop-group.invariant.within in
    record {
      head = c.loop-group.invariant.head (omega arith);
      before = omega arith;
      least = λ i e head. c.loop-group.invariant.least i e (let h = head_within c.args.groups.now c.args.passed.now i e head in let past = c.loop-group-test.false in omega arith) head;
    }
