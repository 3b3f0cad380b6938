use Rattle.std.proofs.Common.{◌<◌, length, get_or}
use Rattle.std.proofs.lemmas.List.Elements.{Contains-get_or}
use Rattle.lock_graph.proofs.ranks.is_least.Goals as goal

pub bounds-ranks-other : goal.bounds-ranks-other
bounds-ranks-other c =
    let others = c.args.others.now in
    let k = c.loop-other.other-index in
    let inside : k < length others = c.loop-other-test.true in
    c.requires.others (get_or others k 0) (Contains-get_or others k 0 inside)
