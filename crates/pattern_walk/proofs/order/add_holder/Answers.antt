use Rattle.std.proofs.Common.{◌≡◌, ◌<◌, ◌≤◌, Some, length, get_or, slice_get, sym, ap, ◌∙◌, arith}
use Rattle.std.proofs.lemmas.List.Elements.{Contains-get_or}
use Rattle.std.proofs.lemmas.Option.{slice_get-get_or}
use Rattle.pattern_walk.proofs.Ordering.{adds_more, adds_all}
use Rattle.pattern_walk.proofs.order.add_holder.Goals as goal

pub index_mut-requires : goal.index_mut-requires
index_mut-requires c =
    let held = c.args.held.now in
    let k = c.loop-lock.lock-index in
    let inside : k < length held = c.loop-lock-test.true in
    let below = c.requires.below (get_or held k 0) (Contains-get_or held k 0 inside) in
    let size = c.loop-lock.invariant.size in
    omega arith

pub loop-lock-preserved : goal.loop-lock-preserved
loop-lock-preserved c =
    let held = c.args.held.now in
    let now = c.loop-lock.holders.items in
    let k = c.loop-lock.lock-index in
    let lock = get_or held k 0 in
    let w = c.index_mut.result.now in
    let inside : k < length held = c.loop-lock-test.true in
    let below = c.requires.below lock (Contains-get_or held k 0 inside) in
    let size = c.loop-lock.invariant.size in
    let within : lock < length now = omega arith in
    let at : slice_get now lock ≡ Some w = slice_get-get_or now lock w within ∙ ap Some (sym c.index_mut.ensures.value) in
    adds_more c.args.holders.now.items held c.args.class k lock now w c.push.new.self c.requires.order c.loop-lock.invariant (slice_get-get_or held k 0 inside) at c.in-Ok.ensures.items

pub returns : goal.returns
returns c = let all : length c.args.held.now ≤ c.loop-lock.lock-index = c.loop-lock-test.false in adds_all c.args.holders.now.items c.args.held.now c.args.class c.loop-lock.lock-index c.loop-lock.holders.items all c.loop-lock.invariant
