-- The releases of acquires, for the places before place n.
use Rattle.std.specs.Prelude.{◌≡◌, ◌<◌, ◌≤◌, ◌↔◌, ℕ, List, Option, Some, None, length, slice_get}
use Rattle.sp_base.specs.declared.limits.TheConstants.{MAX_LOCKS}
use Rattle.trace_laws.specs.Event.{Event}
use Rattle.trace_laws.specs.declared.event.Op.TheVariants.{Acquire}
use Rattle.trace_laws.specs.Trace.{op_at, Holds, IsReleaseOf}

-- just before place n the lock is held since the acquire a
pub record IsHeldSince (events : List Event) (n l a : ℕ) : Type 0 where
  pub thread : ℕ
  pub holds : Holds events ◌<◌ n thread l
  pub since : holds.since ≡ a

-- just before place n the lock is held since that acquire, or by no thread
abbrev pub IsHeldOrFree : List Event → ℕ → ℕ → Option ℕ → Type 0
IsHeldOrFree events n l (Some a) = IsHeldSince events n l a
IsHeldOrFree events n l None = (t : ℕ) → Holds events ◌<◌ n t l → ⊥

-- for each lock the acquire since which it is held just before place n, and for each acquire its release before place n
pub record AreReleases (events : List Event) (n : ℕ) (held releases : List (Option ℕ)) : Type 0 where
  pub locks : length held ≡ MAX_LOCKS
  pub places : length releases ≡ length events
  pub holding : (l : ℕ) (o : Option ℕ) → slice_get held l ≡ Some o → IsHeldOrFree events n l o
  pub released : (a l : ℕ) (o : Option ℕ) → a < n → op_at events a ≡ Some (Acquire l) → slice_get releases a ≡ Some o → (r : ℕ) → (o ≡ Some r) ↔ ((r < n) × IsReleaseOf events a r)
  pub rest : (a : ℕ) (o : Option ℕ) → n ≤ a → slice_get releases a ≡ Some o → o ≡ None
