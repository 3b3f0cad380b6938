use Rattle.pattern_walk.specs.Orders.{AddsClassBelow}
use Rattle.pattern_walk.proofs.order.add_holder.Given as goal

abbrev pub invariant-loop-lock : goal.invariant-loop-lock
invariant-loop-lock l = AddsClassBelow l.fn.holders.items l.held l.class l.lock-index l.holders.items
