-- What the tables on the places of a trace keep.
use Rattle.std.specs.Prelude.{◌≡◌, ◌<◌, ◌↔◌, ℕ, Option, Some, length, slice_get}
use Rattle.trace_laws.specs.Traces.{History, IsTrace}
use Rattle.trace_laws.specs.declared.event.Op.TheVariants.{Acquire}
use Rattle.trace_laws.specs.Trace.{Reads, op_at, IsWriter, IsReleaseOf}
use Rattle.trace_laws.specs.Kept.{local_of}
use Rattle.closed_fronts.specs.declared.places.Places.TheInside.{Inside}

-- the tables are seen as their trace
abbrev pub history_in : Inside → History
history_in x = x.trace.now

-- there is an entry for each place, and each entry is right
pub record ArePlaced (x : Inside) : Type 0 where
  pub trace : IsTrace x.trace.now.events x.trace.now.threads
  pub locals_size : length x.locals.items ≡ length x.trace.now.events
  pub writers_size : length x.writers.items ≡ length x.trace.now.events
  pub releases_size : length x.releases.items ≡ length x.trace.now.events
  pub locals : (p k : ℕ) → p < length x.trace.now.events → slice_get x.locals.items p ≡ Some k → k ≡ local_of x.trace.now.events p
  pub writers : (r v : ℕ) (o : Option ℕ) → Reads x.trace.now.events r v → slice_get x.writers.items r ≡ Some o → IsWriter x.trace.now.events ◌<◌ r v o
  pub releases : (a l : ℕ) (o : Option ℕ) → op_at x.trace.now.events a ≡ Some (Acquire l) → slice_get x.releases.items a ≡ Some o → (r : ℕ) → (o ≡ Some r) ↔ IsReleaseOf x.trace.now.events a r
