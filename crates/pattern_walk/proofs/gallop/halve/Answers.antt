use Rattle.std.proofs.Common.{◌≡◌, ◌+◌, ◌-◌, ◌/◌, ◌<◌, true, length, get_or, sym, ◌∙◌, arith}
use Rattle.std.proofs.lemmas.List.Elements.{Contains-get_or}
use Rattle.std.proofs.lemmas.Option.{slice_get-get_or}
use Rattle.sp_closure.specs.Members.{has}
use Rattle.pattern_walk.proofs.Moving.{in_set_to}
use Rattle.pattern_walk.proofs.gallop.halve.Goals as goal

pub has-requires : goal.has-requires
has-requires c =
    let acquires = c.args.acquires.now in
    let middle = c.loop-low.low + (c.loop-low.high - c.loop-low.low) / 2 in
    let within = c.loop-low.invariant.within in
    let less = c.loop-low-test.true in
    let inside : middle < length acquires = omega arith in
    c.requires.acquires (get_or acquires middle 0) (Contains-get_or acquires middle 0 inside)

pub loop-low-preserved-then-has : goal.loop-low-preserved-then-has
loop-low-preserved-then-has c =
    let acquires = c.args.acquires.now in
    let set = has c.args.cursor.now.members in
    let middle = c.loop-low.low + (c.loop-low.high - c.loop-low.low) / 2 in
    let from = c.loop-low.invariant.from in
    let within = c.loop-low.invariant.within in
    let less = c.loop-low-test.true in
    let inside : middle < length acquires = omega arith in
    let is : set (get_or acquires middle 0) ≡ true = sym c.has.ensures ∙ c.if-has.true in
    record {
      from = omega arith;
      order = omega arith;
      within = within;
      passed = in_set_to set acquires c.args.start middle (get_or acquires middle 0) c.requires.initial (slice_get-get_or acquires middle 0 inside) is;
      outside = c.loop-low.invariant.outside;
    }
