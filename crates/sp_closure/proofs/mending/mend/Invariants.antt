use Rattle.std.proofs.Common.{◌≡◌, ◌+◌, ◌≤◌, length}
use Rattle.closed_fronts.specs.Cuts.{Admits}
use Rattle.closed_fronts.specs.Rows.{IsSteady}
use Rattle.closed_fronts.proofs.Joins.{room}
use Rattle.sp_closure.specs.Asked.{AreAsked}
use Rattle.sp_closure.proofs.mending.mend.Given as goal

abbrev pub invariant-loop-acquire : goal.invariant-loop-acquire
invariant-loop-acquire g l = record {
  start : l.start ≤ l.index.threads;
  steady : IsSteady l.index.events l.index.threads l.cuts;
  admits : Admits l.index.events (λ _. ⊥) l.fn.cuts l.cuts;
  asked : AreAsked l.index.events l.cuts l.asked;
  rises : l.fn.asked ≤ l.asked;
  steps : l.steps + l.fn.asked ≡ l.fn.steps + l.asked;
}

abbrev pub decreases-loop-acquire : goal.decreases-loop-acquire
decreases-loop-acquire g l = room (length l.index.events) l.cuts
