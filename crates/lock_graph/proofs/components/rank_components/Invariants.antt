use Rattle.std.proofs.Common.{length}
use Rattle.lock_graph.specs.Classes.{HaveLocksBelow}
use Rattle.lock_graph.proofs.components.rank_components.Given as goal

abbrev pub invariant-loop-lock : goal.invariant-loop-lock
invariant-loop-lock l = HaveLocksBelow l.classes.classes (length l.search.ranks.items)
