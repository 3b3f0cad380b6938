-- What a builder's fields say of its events.
use Rattle.std.specs.Prelude.{◌≡◌, ◌<◌, ◌≤◌, ◌↔◌, ℕ, List, length, Bool, true, Option, Some, None, slice_get, slice_set, vec_capacity}
use Rattle.sp_base.specs.declared.limits.TheConstants.{MAX_EVENTS, MAX_LOCKS, MAX_THREADS}
use Rattle.trace_laws.specs.Event.{Event}
use Rattle.trace_laws.specs.declared.event.Op.{Op}
use Rattle.trace_laws.specs.declared.event.Op.TheVariants.{Acquire, Release, Fork, Join}
use Rattle.trace_laws.specs.declared.builder.Builder.TheInside.{Inside}
use Rattle.trace_laws.specs.Trace.{Lawful, IsForked, IsJoined, HasStarted}
use Rattle.trace_laws.specs.Faults.{Built, HoldsNow}

-- what a builder's fields mean: its events and its capacity
abbrev pub built : Inside → Built
built b = record { events = b.events.items; capacity = b.capacity }

-- the tables say who holds each lock, and which threads were joined, were forked and have events
pub record Tracks (trace : List Event) (owners : List (Option ℕ)) (joined forked started : List Bool) : Type 0 where
  pub locks : length owners ≡ MAX_LOCKS
  pub joined_threads : length joined ≡ MAX_THREADS
  pub forked_threads : length forked ≡ MAX_THREADS
  pub started_threads : length started ≡ MAX_THREADS
  pub owner : (l t : ℕ) → l < MAX_LOCKS → (slice_get owners l ≡ Some (Some t)) ↔ HoldsNow trace t l
  pub joins : (u : ℕ) → u < MAX_THREADS → (slice_get joined u ≡ Some true) ↔ IsJoined trace (length trace) u
  pub forks : (u : ℕ) → u < MAX_THREADS → (slice_get forked u ≡ Some true) ↔ IsForked trace (length trace) u
  pub starts : (u : ℕ) → u < MAX_THREADS → (slice_get started u ≡ Some true) ↔ HasStarted trace (length trace) u

-- the events are lawful, there is room for the rest without more memory, and the tables say what the events did
pub record IsUpToDate (b : Inside) : Type 0 where
  pub lawful : Lawful b.events.items
  pub within : length b.events.items ≤ b.capacity
  pub limit : b.capacity ≤ MAX_EVENTS
  pub room : b.capacity ≤ vec_capacity b.events
  pub tracks : Tracks b.events.items b.owners.items b.joined.items b.forked.items b.started.items

-- the owners after an event of thread t
abbrev pub owners_after : List (Option ℕ) → ℕ → Op → List (Option ℕ)
owners_after owners t (Acquire l) = slice_set owners l (Some t)
owners_after owners t (Release l) = slice_set owners l None
owners_after owners t _ = owners

-- the joined threads after an event
abbrev pub joined_after : List Bool → Op → List Bool
joined_after joined (Join u) = slice_set joined u true
joined_after joined _ = joined

-- the forked threads after an event
abbrev pub forked_after : List Bool → Op → List Bool
forked_after forked (Fork u) = slice_set forked u true
forked_after forked _ = forked
