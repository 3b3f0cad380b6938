use Rattle.std.proofs.Common.{ℕ, ◌≡◌, ◌+◌, Some}
use Rattle.std.specs.Prelude.{IfSome}
use Rattle.std.specs.Option.{option_map_or}
use Rattle.trace_laws.specs.Trace.{thread_at}
use Rattle.closed_fronts.specs.Tables.{IsAtMost}
use Rattle.closed_fronts.specs.Rows.{IsAcquireBelow, IsBrokenAt}
use Rattle.closed_fronts.proofs.torn.torn_of.Given as goal

abbrev pub invariant-loop-open : goal.invariant-loop-open
invariant-loop-open l = record {
  open_below : IfSome l.open (λ a. IsAcquireBelow l.ties.events l.cuts a l.cut);
  own : IfSome l.open (λ a. thread_at l.ties.events a ≡ Some l.thread);
  all : (a r : ℕ) → thread_at l.ties.events a ≡ Some l.thread → IsBrokenAt l.ties.events l.cuts a r → IsAtMost a l.open;
}

abbrev pub decreases-loop-open : goal.decreases-loop-open
decreases-loop-open l = option_map_or (λ (a : ℕ). a + 1) l.open 0
