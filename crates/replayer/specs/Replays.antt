-- Runs of a script along places of a trace, and what they reach.
use Rattle.std.specs.Prelude.{◌≡◌, ℕ, List, [], ◌∷◌, length, filter_map, slice_get, Some, Contains}
use Rattle.trace_laws.specs.declared.event.Op.TheVariants.{Acquire}
use Rattle.trace_laws.specs.Event.{Event}
use Rattle.trace_laws.specs.Trace.{thread_at, Acquires}
use Rattle.trace_laws.specs.Reordering.{CorrectReordering, Conflict, LeavesEnabled}
use Rattle.trace_laws.specs.Patterns.{Class, IsPattern, IsInstance, next_in}
use Rattle.script_machine.specs.Machine.{Script, State, Taken, Step, Run, NextCall, CanStep, start, events}

-- what stands at the places, in their order
abbrev pub along : {X : Type 0} → List X → List ℕ → List X
along xs places = filter_map (slice_get xs) places

-- the events are a legal run, and its steps at the places, each with the value that it brought there, are one that leads to the state
pub record ReplaysTo (script : Script) (trace : List Event) (places : List ℕ) (s : State) : Type 0 where
  pub run : List Taken
  pub end : State
  pub same : trace ≡ events run
  pub legal : Run script (start script) run end
  pub replayed : Run script (start script) (along run places) s

-- the thread of the event is running, its next call is the event's, and it can step
pub record Ready (script : Script) (s : State) (event : Event) : Type 0 where
  pub next : NextCall script s event.thread event.op
  pub can : CanStep script s event.thread

-- it is ready, and still is after any step of the thread
pub record StaysReady (script : Script) (s : State) (event : Event) (thread : ℕ) : Type 0 where
  pub now : Ready script s event
  pub still : (taken : Taken) (s' : State) → Step script s taken s' → taken.event.thread ≡ thread → Ready script s' event

-- A race is reached: the events of its two places are ready, and each still is after the thread of the other has stepped.
pub record RaceReached (script : Script) (trace : List Event) (s : State) (e1 e2 : ℕ) : Type 0 where
  pub first : Event
  pub second : Event
  pub at_first : slice_get trace e1 ≡ Some first
  pub at_second : slice_get trace e2 ≡ Some second
  pub first_ready : StaysReady script s first second.thread
  pub second_ready : StaysReady script s second first.thread

-- The next call of the thread of place p is its acquire there, and the thread of place q owns the lock.
pub record IsBlockedBy (script : Script) (trace : List Event) (s : State) (p q : ℕ) : Type 0 where
  pub waiter : ℕ
  pub owner : ℕ
  pub lock : ℕ
  pub acquires : Acquires trace p waiter lock
  pub of_owner : thread_at trace q ≡ Some owner
  pub next : NextCall script s waiter (Acquire lock)
  pub owned : s.owner lock ≡ Some owner

-- each of the places is blocked by the next one in the cycle
abbrev pub AreBlocked : Script → List Event → State → List ℕ → Type 0
AreBlocked script trace s picks = (i p q : ℕ) → slice_get picks i ≡ Some p → slice_get picks (next_in (length picks) i) ≡ Some q → IsBlockedBy script trace s p q

-- A deadlock is reached: each of its places is blocked by the next one in the cycle, and in no list of steps from here
-- does a thread of any of them step.
pub record DeadlockReached (script : Script) (trace : List Event) (s : State) (picks : List ℕ) : Type 0 where
  pub blocked : AreBlocked script trace s picks
  pub stuck : (more : List Taken) (s' : State) → Run script s more s' → (taken : Taken) → Contains more taken
      → (p : ℕ) → Contains picks p → thread_at trace p ≡ Some taken.event.thread → ⊥

-- each correct reordering of a legal run, with the values that its reads and writes brought, is a legal run
abbrev pub ReplayLaw : Type 0
ReplayLaw = (script : Script) (run : List Taken) (end : State) (places : List ℕ) → Run script (start script) run end
    → CorrectReordering (events run) places → (s : State) × Run script (start script) (along run places) s

-- after one that leaves two conflicting places enabled, their race is reached
abbrev pub RaceLaw : Type 0
RaceLaw = (script : Script) (run : List Taken) (end s : State) (places : List ℕ) (e1 e2 : ℕ) → Run script (start script) run end
    → Conflict (events run) e1 e2 → LeavesEnabled (events run) places (e1 ∷ e2 ∷ []) → Run script (start script) (along run places) s
    → RaceReached script (events run) s e1 e2

-- after one that leaves the picks of an instance of a pattern enabled, their deadlock is reached
abbrev pub DeadlockLaw : Type 0
DeadlockLaw = (script : Script) (run : List Taken) (end s : State) (places picks : List ℕ) (pattern : List Class) → Run script (start script) run end
    → IsPattern (events run) pattern → IsInstance pattern picks → LeavesEnabled (events run) places picks → Run script (start script) (along run places) s
    → DeadlockReached script (events run) s picks
