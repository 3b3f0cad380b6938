use Rattle.std.proofs.Common.{◌+◌, ◌≤◌, length}
use Rattle.closed_fronts.specs.Cuts.{Admits}
use Rattle.closed_fronts.specs.Rows.{IsSteady, AreWithin}
use Rattle.closed_fronts.proofs.Joins.{room}
use Rattle.closed_fronts.proofs.mending.mend.Given as goal

abbrev pub invariant-loop-acquire : goal.invariant-loop-acquire
invariant-loop-acquire l = record {
  start : l.start ≤ l.ties.threads;
  steady : IsSteady l.ties.events l.ties.threads l.cuts;
  within : AreWithin l.cuts (length l.rows + 1);
  admits : Admits l.ties.events (λ _. ⊥) l.fn.cuts l.cuts;
}

abbrev pub decreases-loop-acquire : goal.decreases-loop-acquire
decreases-loop-acquire l = room (length l.rows + 1) l.cuts
