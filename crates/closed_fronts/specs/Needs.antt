-- What stands before a place, and what it reads.
use Rattle.std.specs.Prelude.{◌≡◌, ◌<◌, ◌⊎◌, ℕ, List, Some}
use Rattle.trace_laws.specs.Event.{Event}
use Rattle.trace_laws.specs.declared.event.Op.TheVariants.{Fork}
use Rattle.trace_laws.specs.Trace.{thread_at, op_at, Reads, IsLastWrite}

-- place i stands before the place, and is of thread u or forks it
pub record IsThreadBefore (events : List Event) (u place i : ℕ) : Type 0 where
  pub earlier : i < place
  pub side : (thread_at events i ≡ Some u) ⊎ (op_at events i ≡ Some (Fork u))

-- w is the writer of the read at place r
pub record IsWriterOfRead (events : List Event) (r w : ℕ) : Type 0 where
  pub var : ℕ
  pub reads : Reads events r var
  pub last : IsLastWrite events ◌<◌ r var w
