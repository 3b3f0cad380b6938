use Rattle.closed_fronts.specs.Rows.{AreUnbroken}
use Rattle.closed_fronts.proofs.torn.torn_between.Given as goal

abbrev pub invariant-loop-thread : goal.invariant-loop-thread
invariant-loop-thread l = AreUnbroken l.ties.events l.cuts l.from l.thread
