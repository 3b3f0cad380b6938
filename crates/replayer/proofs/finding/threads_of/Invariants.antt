use Rattle.std.proofs.Common.{◌≡◌, ◌≤◌, Some, length, take, vec_len, vec_capacity}
use Rattle.std.specs.List.{AllZip}
use Rattle.trace_laws.specs.Trace.{thread_at}
use Rattle.replayer.proofs.finding.threads_of.Given as goal

abbrev pub invariant-loop-pick : goal.invariant-loop-pick
invariant-loop-pick l = record {
  threads : AllZip (λ p t. thread_at l.trace.events p ≡ Some t) (take l.pick-index l.picks) l.threads.items;
  many : vec_len l.threads ≡ l.pick-index;
  room : length l.picks ≤ vec_capacity l.threads;
}
