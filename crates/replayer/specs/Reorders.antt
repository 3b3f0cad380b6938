-- The reordering that a keep stands for.
use Rattle.std.specs.Prelude.{ℕ, List, Contains}
use Rattle.trace_laws.specs.Event.{Event}
use Rattle.trace_laws.specs.Traces.{History}
use Rattle.trace_laws.specs.Reordering.{CanLeave, LeavesEnabled, IsNeeded}
use Rattle.trace_laws.specs.Findings.{IsKeep, by_reorderings}

-- The list is a sync-preserving correct reordering that leaves the picks enabled, and has only places that each such
-- reordering has.
pub record IsLeastReordering (trace : List Event) (picks places : List ℕ) : Type 0 where
  pub leaves : LeavesEnabled trace places picks
  pub least : (p : ℕ) → Contains places p → IsNeeded trace picks p

-- where the keep is that of picks which some reordering leaves enabled, the list is the least one that does
abbrev pub FollowsKeep : History → List ℕ → List ℕ → Type 0
FollowsKeep h keep places = (picks : List ℕ) → CanLeave h.events picks → IsKeep h.events h.threads (by_reorderings h.events) picks keep → IsLeastReordering h.events picks places
