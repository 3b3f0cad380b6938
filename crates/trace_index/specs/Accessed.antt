-- The accesses of variables, in the order of a trace.
use Rattle.std.specs.Prelude.{◌<◌, ◌≤◌, ◌↔◌, ℕ, List, Vec, length, Contains}
use Rattle.std.specs.declared.alloc.Global.{Global}
use Rattle.sp_base.specs.declared.limits.TheConstants.{MAX_VARS}
use Rattle.trace_laws.specs.Event.{Event}
use Rattle.trace_laws.specs.Reordering.{Rises, Accesses}
use Rattle.trace_index.specs.Listed.{AreListed}

-- the list has exactly the accesses of variable x, in the order of the trace
pub record AreAccesses (events : List Event) (x : ℕ) (places : List ℕ) : Type 0 where
  pub order : Rises places
  pub members : (p : ℕ) → Contains places p ↔ Accesses events p x

-- the variables that a trace accesses are below their greatest number
abbrev pub AreVariablesBelow : List Event → ℕ → Type 0
AreVariablesBelow events bound = (p x : ℕ) → Accesses events p x → x < bound

-- place p accesses variable x
abbrev pub IsAccessOf : List Event → ℕ → ℕ → Type 0
IsAccessOf events x p = Accesses events p x

-- for each variable its accesses before place n
pub record AreAccessLists (events : List Event) (n : ℕ) (lists : List (Vec ℕ Global)) : Type 0 where
  pub few : length lists ≤ MAX_VARS
  pub each : AreListed (IsAccessOf events) n lists
