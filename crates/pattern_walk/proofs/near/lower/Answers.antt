use Rattle.std.proofs.Common.{◌≡◌, ◌<◌, ◌≤◌, Some, length, get_or, slice_get, sym, ap, ◌∙◌, arith}
use Rattle.std.proofs.lemmas.List.Elements.{Contains-get_or}
use Rattle.std.proofs.lemmas.Option.{slice_get-get_or, get_or_from_slice_get}
use Rattle.pattern_walk.proofs.Nearing.{reached_more, reached_low, reached_all}
use Rattle.pattern_walk.proofs.near.lower.Goals as goal

pub index-requires : goal.index-requires
index-requires c =
    let locks = c.args.locks.now in
    let k = c.loop-lock.lock-index in
    let inside : k < length locks = c.loop-lock-test.true in
    let below = c.requires (get_or locks k 0) (Contains-get_or locks k 0 inside) in
    let size = c.loop-lock.invariant.lowered.size in
    omega arith

pub loop-lock-preserved-then-index-to : goal.loop-lock-preserved-then-index-to
loop-lock-preserved-then-index-to c =
    let locks = c.args.locks.now in
    let now = c.loop-lock.steps.items in
    let k = c.loop-lock.lock-index in
    let lock = get_or locks k 0 in
    let r = c.index.result.now in
    let inside : k < length locks = c.loop-lock-test.true in
    let below = c.requires lock (Contains-get_or locks k 0 inside) in
    let size = c.loop-lock.invariant.lowered.size in
    let within : lock < length now = omega arith in
    let at : slice_get now lock ≡ Some r = slice_get-get_or now lock r within ∙ ap Some (sym c.index.ensures) in
    let is : get_or now lock 0 ≡ r = get_or_from_slice_get now lock r 0 at in
    let low : get_or now lock 0 ≤ c.args.to = (let test = c.if-index-to.true in omega arith) in
    reached_low c.args.steps.now.items locks c.args.to k lock now c.loop-lock.invariant (slice_get-get_or locks k 0 inside) low

pub index_mut-requires : goal.index_mut-requires
index_mut-requires c =
    let locks = c.args.locks.now in
    let k = c.loop-lock.lock-index in
    let inside : k < length locks = c.loop-lock-test.true in
    let below = c.requires (get_or locks k 0) (Contains-get_or locks k 0 inside) in
    let size = c.loop-lock.invariant.lowered.size in
    omega arith

pub loop-lock-preserved : goal.loop-lock-preserved
loop-lock-preserved c =
    let locks = c.args.locks.now in
    let now = c.loop-lock.steps.items in
    let k = c.loop-lock.lock-index in
    let lock = get_or locks k 0 in
    let r = c.index.result.now in
    let inside : k < length locks = c.loop-lock-test.true in
    let below = c.requires lock (Contains-get_or locks k 0 inside) in
    let size = c.loop-lock.invariant.lowered.size in
    let within : lock < length now = omega arith in
    let at : slice_get now lock ≡ Some r = slice_get-get_or now lock r within ∙ ap Some (sym c.index.ensures) in
    let is : get_or now lock 0 ≡ r = get_or_from_slice_get now lock r 0 at in
    let higher : c.args.to < get_or now lock 0 = (let test = c.if-index-to.false in omega arith) in
    reached_more c.args.steps.now.items locks c.args.to k lock now c.loop-lock.invariant (slice_get-get_or locks k 0 inside) within higher

pub returns-clause-reached : goal.returns-clause-reached
returns-clause-reached c = let all : length c.args.locks.now ≤ c.loop-lock.lock-index = c.loop-lock-test.false in reached_all c.args.steps.now.items c.args.locks.now c.args.to c.loop-lock.lock-index c.loop-lock.steps.items all c.loop-lock.invariant
