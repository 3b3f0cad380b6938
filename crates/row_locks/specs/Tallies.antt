-- How many events of a run are of a thread.
use Rattle.std.specs.Prelude.{◌==◌, ℕ, List, count_by}
use Rattle.trace_laws.specs.Event.{Event}

-- how many of the events are of thread t
abbrev pub events_by : ℕ → List Event → ℕ
events_by t events = count_by (λ e. e.thread == t) events
