-- The replay of a deadlock along its kept events.
use Rattle.std.proofs.Common.{◌≡◌, ◌<◌, ℕ, zero, suc, List, [], ◌∷◌, All, length, Some, Contains, sym, ◌∙◌, subst, arith, inl, inr}
use Rattle.std.specs.List.{AllZip}
use Rattle.std.proofs.lemmas.Bool.{cases_lt}
use Rattle.trace_laws.specs.Event.{Event}
use Rattle.trace_laws.specs.Trace.{thread_at}
use Rattle.trace_laws.specs.Traces.{History}
use Rattle.trace_laws.specs.Kept.{AreKept}
use Rattle.trace_laws.specs.Patterns.{IsPattern}
use Rattle.trace_laws.specs.Findings.{FoundDeadlock}
use Rattle.trace_laws.specs.Reordering.{LeavesEnabled}
use Rattle.trace_laws.proofs.Places.{contains_head, contains_tail}
use Rattle.script_machine.specs.Machine.{Script, State, IsRunning, start}
use Rattle.script_machine.specs.Held.{Held, meaning}
use Rattle.script_machine.proofs.Sizes.{none_at_start}
use Rattle.script_machine.proofs.Runs.{run_inside}
use Rattle.replayer.specs.Reorders.{FollowsKeep}
use Rattle.replayer.specs.Replays.{along, ReplaysTo, DeadlockReached}
use Rattle.replayer.specs.Replayed.{IsDeadlockOf, IsRunningIn, ReachesDeadlock}
use Rattle.replayer.proofs.Ordering.{index_of}
use Rattle.replayer.proofs.Stuck.{deadlock_law, blocked_at}

-- the kept places leave the picks enabled
pub kept_leave_picks : (h : History) (found : FoundDeadlock) (places : List ℕ) → IsDeadlockOf h found → FollowsKeep h found.keep places → LeavesEnabled h.events places found.picks
kept_leave_picks h found places is follows = (follows found.picks is.deadlock.enabled is.keep).leaves

-- the picks are places of the trace
pub picks_within : (h : History) (found : FoundDeadlock) (places : List ℕ) → IsDeadlockOf h found → FollowsKeep h found.keep places
    → (p : ℕ) → Contains found.picks p → p < length h.events
picks_within h found places is follows p inside = ((kept_leave_picks h found places is follows).enabled p inside).within

-- the state after the kept events reaches the deadlock
pub reaches_deadlock : (script : Script) (h : History) (found : FoundDeadlock) (places : List ℕ) (s : State) → IsDeadlockOf h found → AreKept h.events found.keep places
    → FollowsKeep h found.keep places → ReplaysTo script h.events places s → ReachesDeadlock script h found s
reaches_deadlock script h found places s is kept follows r =
    let leaves = subst (λ es. LeavesEnabled es places found.picks) r.same (kept_leave_picks h found places is follows) in
    let pattern = subst (λ es. IsPattern es is.pattern) r.same is.is_pattern in
    let there = deadlock_law script r.run r.end s places found.picks is.pattern r.legal pattern is.deadlock.picked leaves r.replayed in
    record {
      places = places;
      kept = kept;
      replayed = r;
      reached = subst (λ es. DeadlockReached script es s found.picks) (sym r.same) there;
    }

-- a thread that has a next call after a run is one of the script
inside_script : (script : Script) (trace : List Event) (places : List ℕ) (s : State) (t : ℕ) → ReplaysTo script trace places s → IsRunning script s t → t < length script.bodies
inside_script script trace places s t r running = elim (cases_lt t (length script.bodies)) [
  | inl less ↦ less
  | inr more ↦ absurd (running.some_left (run_inside script (along r.run places) (start script) s (none_at_start script) r.replayed t more))
]

-- a thread of a pick is running in the machine where the deadlock is reached
pick_runs : (script : Script) (h : History) (found : FoundDeadlock) (m : Held) → m.script ≡ script → ReachesDeadlock script h found (meaning m)
    → (p t : ℕ) → Contains found.picks p → thread_at h.events p ≡ Some t → IsRunningIn m t
pick_runs script h found m same there p t inside of =
    let (i, less, at_i) = index_of found.picks p inside in
    let (q, at_q, b) = blocked_at script h.events found.picks (meaning m) there.reached.blocked i p at_i in
    let own : b.waiter ≡ t = (let w = b.acquires.thread in cc) in
    let next = b.next in
    let running : IsRunning script (meaning m) t = subst (IsRunning script (meaning m)) own (record { awake = next.awake; some_left = λ none. (let full = sym none ∙ next.next in cc) }) in
    record {
      within = rw same (inside_script script h.events there.places (meaning m) t there.replayed running);
      running = subst (λ z. IsRunning z (meaning m) t) (sym same) running;
    }

-- what holds of the partner of each element holds of all partners
pub all_partners : {A B : Type 0} (R : A → B → Type 0) (P : B → Type 0) (xs : List A) (ys : List B) → AllZip R xs ys → ((x : A) (y : B) → Contains xs x → R x y → P y) → All P ys
all_partners R P [] [] zip f i d less = absurd (omega arith)
all_partners R P [] (y ∷ ys) zip f i d less = absurd zip
all_partners R P (x ∷ xs) [] zip f i d less = absurd zip
all_partners R P (x ∷ xs) (y ∷ ys) zip f zero d less = f x y (contains_head x xs) zip.0
all_partners R P (x ∷ xs) (y ∷ ys) zip f (suc i) d less = all_partners R P xs ys zip.1 (λ a b c. f a b (contains_tail x xs a c)) i d (omega arith)

-- so each of their threads is
pub picks_run : (script : Script) (h : History) (found : FoundDeadlock) (m : Held) (threads : List ℕ) → m.script ≡ script → ReachesDeadlock script h found (meaning m)
    → AllZip (λ p t. thread_at h.events p ≡ Some t) found.picks threads → All (IsRunningIn m) threads
picks_run script h found m threads same there zip =
    all_partners (λ p t. thread_at h.events p ≡ Some t) (IsRunningIn m) found.picks threads zip (pick_runs script h found m same there)
