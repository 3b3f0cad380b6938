use Rattle.std.proofs.Common.{◌≡◌, ◌+◌, ◌<◌, true, length, get_or, sym, ◌∙◌, arith}
use Rattle.std.proofs.lemmas.List.Elements.{Contains-get_or}
use Rattle.std.proofs.lemmas.Option.{slice_get-get_or}
use Rattle.sp_closure.specs.Members.{has}
use Rattle.pattern_walk.proofs.Moving.{in_set_to}
use Rattle.pattern_walk.proofs.gallop.first_outside.Goals as goal

pub has-requires : goal.has-requires
has-requires c =
    let acquires = c.args.acquires.now in
    let probe = c.loop-low.low + c.min.result in
    let least = c.min.ensures in
    let less = c.loop-low-test.true in
    let inside : probe < length acquires = omega arith in
    c.requires.acquires (get_or acquires probe 0) (Contains-get_or acquires probe 0 inside)

pub loop-low-preserved : goal.loop-low-preserved
loop-low-preserved c =
    let acquires = c.args.acquires.now in
    let set = has c.args.cursor.now.members in
    let probe = c.loop-low.low + c.min.result in
    let from = c.loop-low.invariant.from in
    let least = c.min.ensures in
    let less = c.loop-low-test.true in
    let inside : probe < length acquires = omega arith in
    let is : set (get_or acquires probe 0) ≡ true = sym c.has.ensures ∙ c.if-not-has.false in
    record {
      from = omega arith;
      passed = in_set_to set acquires c.args.from probe (get_or acquires probe 0) c.requires.initial (slice_get-get_or acquires probe 0 inside) is;
    }
