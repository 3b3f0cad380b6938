-- What a trace is, as its users see it.
use Rattle.std.specs.Prelude.{◌≡◌, ◌<◌, ◌≤◌, ℕ, List, length, Some, slice_get}
use Rattle.sp_base.specs.declared.limits.TheConstants.{MAX_EVENTS, MAX_THREADS}
use Rattle.trace_laws.specs.Event.{Event}
use Rattle.trace_laws.specs.declared.event.Op.{Op}
use Rattle.trace_laws.specs.declared.event.Op.TheVariants.{Fork, Join}
use Rattle.trace_laws.specs.Trace.{Lawful}

-- the events, and how many threads there are
pub record History : Type 0 where
  pub events : List Event
  pub threads : ℕ

-- the threads that an operation names are below a number
abbrev pub NamesBelow : Op → ℕ → Type 0
NamesBelow (Fork u) threads = u < threads
NamesBelow (Join u) threads = u < threads
NamesBelow _ threads = Unit {0}

-- each thread that the events name is below the number
abbrev pub AreNamedBelow : List Event → ℕ → Type 0
AreNamedBelow events threads = (i : ℕ) (e : Event) → slice_get events i ≡ Some e → (e.thread < threads) × NamesBelow e.op threads

-- what each trace promises: its events are lawful and not too many, and each thread that they name is below its number
pub record IsTrace (events : List Event) (threads : ℕ) : Type 0 where
  pub lawful : Lawful events
  pub size : length events ≤ MAX_EVENTS
  pub named : AreNamedBelow events threads
  pub few : threads ≤ MAX_THREADS
