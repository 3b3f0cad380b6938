-- What the places of a trace are tied to.
use Rattle.std.specs.Prelude.{◌≡◌, ◌<◌, ◌≤◌, ◌+◌, ℕ, List, Vec, Option, Some, None, length, slice_get, slice_set}
use Rattle.std.specs.declared.alloc.Global.{Global}
use Rattle.sp_base.specs.declared.limits.TheConstants.{MAX_LOCKS}
use Rattle.trace_laws.specs.Event.{Event}
use Rattle.trace_laws.specs.declared.event.Op.{Op}
use Rattle.trace_laws.specs.declared.event.Op.TheVariants.{Acquire, Fork, Join}
use Rattle.trace_laws.specs.Trace.{thread_at, op_at, Acquires, IsReleaseOf}
use Rattle.closed_fronts.specs.Needs.{IsThreadBefore}

-- the answer is the greatest place of which P holds, or none
abbrev pub IsLatest : (ℕ → Type 0) → Option ℕ → Type 0
IsLatest P None = (a : ℕ) → P a → ⊥
IsLatest P (Some b) = P b × ((a : ℕ) → P a → a ≤ b)

-- the place is an acquire
abbrev pub IsAcquire : List Event → ℕ → Type 0
IsAcquire events a = (l : ℕ) × (op_at events a ≡ Some (Acquire l))

-- each entry of a table is right for its index
abbrev pub AreTold : {A : Type 0} → (ℕ → A → Type 0) → List A → Type 0
AreTold {A} P xs = (p : ℕ) (x : A) → slice_get xs p ≡ Some x → P p x

-- for each thread the latest place before place n that is of the thread or forks it
pub record AreTips (events : List Event) (threads n : ℕ) (tips : List (Option ℕ)) : Type 0 where
  pub size : length tips ≡ threads
  pub latest : AreTold (λ t o. IsLatest (IsThreadBefore events t n) o) tips

-- the tips after a place with that operation, where it is a fork
abbrev pub with_fork : List (Option ℕ) → Op → ℕ → List (Option ℕ)
with_fork tips (Fork u) place = slice_set tips u (Some place)
with_fork tips _ place = tips

-- place i stands before the place, and is of its thread or forks that
pub record IsOwnBefore (events : List Event) (place i : ℕ) : Type 0 where
  pub thread : ℕ
  pub is_of : thread_at events place ≡ Some thread
  pub before : IsThreadBefore events thread place i

-- the place joins a thread, and place i stands before it and is of that thread or forks it
pub record IsJoinBefore (events : List Event) (place i : ℕ) : Type 0 where
  pub thread : ℕ
  pub joins : op_at events place ≡ Some (Join thread)
  pub before : IsThreadBefore events thread place i

-- place a is an acquire of the thread
abbrev pub IsAcquireOf : List Event → ℕ → ℕ → Type 0
IsAcquireOf events t a = (l : ℕ) × Acquires events a t l

-- at place a, before place n, thread t acquires a lock, and its section does not end before place n
pub record IsOpen (events : List Event) (t n a : ℕ) : Type 0 where
  pub lock : ℕ
  pub acquires : Acquires events a t lock
  pub before : a < n
  pub open_on : (r : ℕ) → IsReleaseOf events a r → n ≤ r

-- the section of an acquire ends at or before the place
abbrev pub HasEnded : List Event → ℕ → ℕ → Type 0
HasEnded events a place = (r : ℕ) × IsReleaseOf events a r × (r ≤ place)

-- the latest open section of the thread of the place just before the place
abbrev pub IsOuter : List Event → ℕ → Option ℕ → Type 0
IsOuter events p o = (t : ℕ) → thread_at events p ≡ Some t → IsLatest (IsOpen events t p) o

-- and just behind it
abbrev pub IsOpened : List Event → ℕ → Option ℕ → Type 0
IsOpened events p o = (t : ℕ) → thread_at events p ≡ Some t → IsLatest (IsOpen events t (p + 1)) o

-- for each thread its latest open section just before place n
pub record AreHeads (events : List Event) (threads n : ℕ) (heads : List (Option ℕ)) : Type 0 where
  pub size : length heads ≡ threads
  pub latest : AreTold (λ t o. IsLatest (IsOpen events t n) o) heads

-- the number is at most that of the option
abbrev pub IsAtMost : ℕ → Option ℕ → Type 0
IsAtMost x None = ⊥
IsAtMost x (Some a) = x ≤ a

-- an acquire of the thread at or before the place
pub record IsCandidate (events : List Event) (t place a : ℕ) : Type 0 where
  pub acquire : IsAcquireOf events t a
  pub within : a ≤ place

-- no open section behind the place is later than the candidate
abbrev pub AreCandidates : List Event → ℕ → ℕ → Option ℕ → Type 0
AreCandidates events t place head = (x : ℕ) → IsOpen events t (place + 1) x → IsAtMost x head

-- k is the first acquire of lock l by thread t from a place on, or the end of the trace
pub record IsNextOf (events : List Event) (l from t k : ℕ) : Type 0 where
  pub found : k < length events → Acquires events k t l × (from ≤ k)
  pub first : (b : ℕ) → Acquires events b t l → from ≤ b → k ≤ b

-- for each thread its first acquire of lock l from a place on
pub record AreNextOf (events : List Event) (threads l from : ℕ) (row : List ℕ) : Type 0 where
  pub size : length row ≡ threads
  pub each : AreTold (λ t k. IsNextOf events l from t k) row

-- for each lock its next acquires from a place on
pub record AreUpcoming (events : List Event) (threads from : ℕ) (rows : List (Vec ℕ Global)) : Type 0 where
  pub size : length rows ≡ MAX_LOCKS
  pub each : AreTold (λ l (v : Vec ℕ Global). AreNextOf events threads l from v.items) rows

-- where place a is an acquire: for each thread its next acquire of the lock behind it
abbrev pub IsNextRow : List Event → ℕ → ℕ → List ℕ → Type 0
IsNextRow events threads a row = (l : ℕ) → op_at events a ≡ Some (Acquire l) → AreNextOf events threads l (a + 1) row
