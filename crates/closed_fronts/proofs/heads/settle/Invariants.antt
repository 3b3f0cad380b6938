use Rattle.std.proofs.Common.{ℕ, ◌+◌}
use Rattle.std.specs.Prelude.{IfSome}
use Rattle.std.specs.Option.{option_map_or}
use Rattle.closed_fronts.specs.Tables.{IsCandidate, AreCandidates}
use Rattle.closed_fronts.proofs.heads.settle.Given as goal

abbrev pub invariant-loop-head : goal.invariant-loop-head
invariant-loop-head l = record {
  candidate : IfSome l.head (IsCandidate l.places.events l.thread l.place);
  all : AreCandidates l.places.events l.thread l.place l.head;
}

abbrev pub decreases-loop-head : goal.decreases-loop-head
decreases-loop-head l = option_map_or (λ (a : ℕ). a + 1) l.head 0
