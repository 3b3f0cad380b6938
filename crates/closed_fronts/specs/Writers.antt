-- The writers of reads, for the places before place n.
use Rattle.std.specs.Prelude.{◌≡◌, ◌<◌, ℕ, List, Option, Some, length, slice_get}
use Rattle.sp_base.specs.declared.limits.TheConstants.{MAX_VARS}
use Rattle.trace_laws.specs.Event.{Event}
use Rattle.trace_laws.specs.Trace.{Reads, IsWriter}

-- for each variable its last write before place n, and for each read before place n its writer
pub record AreWriters (events : List Event) (n : ℕ) (last writers : List (Option ℕ)) : Type 0 where
  pub variables : length last ≡ MAX_VARS
  pub places : length writers ≡ length events
  pub lasts : (x : ℕ) (o : Option ℕ) → slice_get last x ≡ Some o → IsWriter events ◌<◌ n x o
  pub written : (r x : ℕ) (o : Option ℕ) → r < n → Reads events r x → slice_get writers r ≡ Some o → IsWriter events ◌<◌ r x o
