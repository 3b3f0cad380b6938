use Rattle.std.proofs.Common.{◌≡◌, ◌<◌, ◌≤◌, length, get_or, refl, arith}
use Rattle.trace_index.proofs.LockSets.{absent_more, absent_all, less_is_absent, is_common}
use Rattle.trace_index.proofs.lock_sets.are_apart.Goals as goal

pub returns-then-left-i : goal.returns-then-left-i
returns-then-left-i c =
    let left = c.args.left.now in
    let right = c.args.right.now in
    let i = c.loop-i.i in
    let j = c.loop-i.j in
    let in_left : i < length left = omega arith in
    let in_right : j < length right = omega arith in
    let same : get_or left i 0 ≡ get_or right j 0 = omega arith in
    (λ h. cc, λ none. absurd (is_common left right i j in_left in_right same none))

pub loop-i-preserved-then-left-i-2 : goal.loop-i-preserved-then-left-i-2
loop-i-preserved-then-left-i-2 c =
    let left = c.args.left.now in
    let right = c.args.right.now in
    let i = c.loop-i.i in
    let j = c.loop-i.j in
    let old = c.loop-i.invariant in
    let in_left : i < length left = omega arith in
    let in_right : j < length right = omega arith in
    let less : get_or left i 0 < get_or right j 0 = omega arith in
    record {
      left_within = omega arith;
      right_within = omega arith;
      left_absent = absent_more left right i old.left_absent (less_is_absent left right i j c.requires.right in_left in_right old.right_absent less);
      right_absent = old.right_absent;
    }

pub loop-i-preserved : goal.loop-i-preserved
loop-i-preserved c =
    let left = c.args.left.now in
    let right = c.args.right.now in
    let i = c.loop-i.i in
    let j = c.loop-i.j in
    let old = c.loop-i.invariant in
    let in_left : i < length left = omega arith in
    let in_right : j < length right = omega arith in
    let less : get_or right j 0 < get_or left i 0 = omega arith in
    record {
      left_within = omega arith;
      right_within = omega arith;
      left_absent = old.left_absent;
      right_absent = absent_more right left j old.right_absent (less_is_absent right left j i c.requires.left in_right in_left old.left_absent less);
    }

pub returns-else-j-right : goal.returns-else-j-right
returns-else-j-right c =
    let all : length c.args.right.now ≤ c.loop-i.j = omega arith in
    (λ h l in_left in_right. absent_all c.args.right.now c.args.left.now c.loop-i.j all c.loop-i.invariant.right_absent l in_right in_left, λ h. refl)

pub returns-after-loop-i : goal.returns-after-loop-i
returns-after-loop-i c =
    let all : length c.args.left.now ≤ c.loop-i.i = omega arith in
    (λ h l in_left in_right. absent_all c.args.left.now c.args.right.now c.loop-i.i all c.loop-i.invariant.left_absent l in_left in_right, λ h. refl)
