-- The events that a keep counts, which are the first ones of each thread.
use Rattle.std.specs.Prelude.{◌≡◌, ◌<◌, ◌↔◌, ◌==◌, ℕ, List, Some, slice_get, slice_index, take, count_by, Contains}
use Rattle.std.specs.Option.{option_map_or}
use Rattle.trace_laws.specs.Event.{Event}
use Rattle.trace_laws.specs.Trace.{thread_at}
use Rattle.trace_laws.specs.Reordering.{Rises}

-- how many of the first n events are of thread t
abbrev pub count_of : List Event → ℕ → ℕ → ℕ
count_of trace t n = count_by (λ e. e.thread == t) (take n trace)

-- the number of place p within its thread: how many events of its thread stand before it
abbrev pub local_of : List Event → ℕ → ℕ
local_of trace p = option_map_or (λ e. count_of trace e.thread p) (slice_get trace p) 0

-- place p is kept: its number within its thread is below the thread's count
pub record IsKept (trace : List Event) (keep : List ℕ) (p : ℕ) : Type 0 where
  pub thread : ℕ
  pub is_of : thread_at trace p ≡ Some thread
  pub below : local_of trace p < slice_index keep thread

-- the list has exactly the kept places, in the order of the trace
pub record AreKept (trace : List Event) (keep places : List ℕ) : Type 0 where
  pub order : Rises places
  pub members : (p : ℕ) → Contains places p ↔ IsKept trace keep p
