use Rattle.std.proofs.Common.{◌<◌, length, sym, subst, arith}
use Rattle.trace_laws.specs.Traces.{History}
use Rattle.pattern_walk.proofs.Picking.{picks_within}
use Rattle.pattern_walk.proofs.Stepping.{reached_few}
use Rattle.pattern_walk.proofs.checking.settle.Goals as goal

pub first_inside-requires : goal.first_inside-requires
first_inside-requires g c = λ a m. subst (λ (h : History). a < length h.events) (sym c.loop-i.invariant.underway.trace) (picks_within c.args.classes.now c.args.pattern.now c.requires.pattern c.loop-i.instance.positions.items c.loop-i.instance.picks.items c.loop-i.invariant.underway.at a m)

pub returns-clause-steps : goal.returns-clause-steps
returns-clause-steps g c =
    let reached = reached_few c.args.classes.now.classes c.args.pattern.now c.loop-i.instance.positions.items c.loop-i.instance.picks.items c.loop-i.invariant.underway.at in
    let was = c.loop-i.invariant.steps in
    omega arith
