-- The numbers of places within their threads, for the places before place n.
use Rattle.std.specs.Prelude.{◌≡◌, ◌<◌, ℕ, List, Some, length, slice_get}
use Rattle.sp_base.specs.declared.limits.TheConstants.{MAX_THREADS}
use Rattle.trace_laws.specs.Event.{Event}
use Rattle.trace_laws.specs.Kept.{count_of, local_of}

-- for each thread the number of its places before place n, and for each of these places its number within its thread
pub record AreNumbered (events : List Event) (n : ℕ) (counts numbers : List ℕ) : Type 0 where
  pub threads : length counts ≡ MAX_THREADS
  pub places : length numbers ≡ length events
  pub counted : (t k : ℕ) → slice_get counts t ≡ Some k → k ≡ count_of events t n
  pub numbered : (p k : ℕ) → p < n → slice_get numbers p ≡ Some k → k ≡ local_of events p
