-- The sections that hold a place.
use Rattle.std.proofs.Common.{◌≡◌, ℕ, ◌+◌, ◌<◌, ◌≤◌, List, length, Option, Some, None, sym, ◌∙◌, arith}
use Rattle.std.specs.Prelude.{IfSome, slice_get}
use Rattle.trace_laws.specs.Event.{Event}
use Rattle.trace_laws.specs.Trace.{thread_at, Acquires}
use Rattle.closed_fronts.specs.Tables.{IsAcquire, IsOpen, IsOpened, IsNextRow}
use Rattle.race_scan.specs.Enclosed.{IsBegun, IsTakenAgain}

-- an open section of the thread of the place is begun there
begun_if_open : (events : List Event) (t n place a : ℕ) → thread_at events place ≡ Some t → IsOpen events t n a → n ≤ place + 1 → IsBegun events place a
begun_if_open events t n place a own open_there le = record {
  acquire = (open_there.lock, open_there.acquires.op);
  same = open_there.acquires.thread ∙ sym own;
  within = let before = open_there.before in omega arith;
}

-- so is the latest one behind the place
pub begun_opened : (events : List Event) (t place : ℕ) (o : Option ℕ) → thread_at events place ≡ Some t → IsOpened events place o → IfSome o (IsBegun events place)
begun_opened events t place None own latest = tt
begun_opened events t place (Some a) own latest = begun_if_open events t (place + 1) place a own (latest t own).0 (omega arith)

-- the lock is taken again, where the next acquire of a thread stands before the later place
pub taken_by_next : (events : List Event) (threads a t later k : ℕ) (row : List ℕ) → IsAcquire events a → IsNextRow events threads a row → slice_get row t ≡ Some k → k < later → later < length events → IsTakenAgain events a t later
taken_by_next events threads a t later k row acquire next at less within = record {
  again = k;
  excludes = record { lock = acquire.0; first = acquire.1; second = found.0.op; earlier = let behind = found.1 in omega arith };
  is_of = found.0.thread;
  before = less;
}
  where
    found : Acquires events k t acquire.0 × (a + 1 ≤ k)
    found = ((next acquire.0 acquire.1).each t k at).found (omega arith)
