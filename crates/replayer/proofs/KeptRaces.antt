-- The replay of a race along its kept events.
use Rattle.std.proofs.Common.{◌≡◌, ◌<◌, ℕ, zero, suc, List, [], ◌∷◌, All, length, sym, ◌∙◌, subst, arith}
use Rattle.trace_laws.specs.Event.{Event}
use Rattle.trace_laws.specs.Traces.{History}
use Rattle.trace_laws.specs.Kept.{AreKept}
use Rattle.trace_laws.specs.Findings.{FoundRace}
use Rattle.trace_laws.specs.Reordering.{Conflict, LeavesEnabled}
use Rattle.script_machine.specs.Machine.{Script, State, NextCall, CanStep, IsRunning, start}
use Rattle.script_machine.specs.Held.{Held, meaning}
use Rattle.script_machine.proofs.Sizes.{thread_inside, none_at_start}
use Rattle.script_machine.proofs.Runs.{run_inside}
use Rattle.replayer.specs.Reorders.{FollowsKeep}
use Rattle.replayer.specs.Replays.{along, Ready, ReplaysTo, RaceReached}
use Rattle.replayer.specs.Replayed.{IsRaceOf, IsRunningIn, IsRaceReplay, ReachesRace}
use Rattle.replayer.proofs.Reaching.{race_law}

-- the kept places leave the race enabled
pub kept_leave : (h : History) (found : FoundRace) (places : List ℕ) → IsRaceOf h found → FollowsKeep h found.keep places
    → LeavesEnabled h.events places (found.earlier ∷ found.later ∷ [])
kept_leave h found places is follows = (follows (found.earlier ∷ found.later ∷ []) is.race.enabled is.keep).leaves

-- a race that is reached is so in either order of its places
turned : (script : Script) (trace : List Event) (s : State) (e1 e2 : ℕ) → RaceReached script trace s e1 e2 → RaceReached script trace s e2 e1
turned script trace s e1 e2 r = record {
  first = r.second;
  second = r.first;
  at_first = r.at_second;
  at_second = r.at_first;
  first_ready = r.second_ready;
  second_ready = r.first_ready;
}

-- the state after the kept events reaches the race
pub reaches_race : (script : Script) (h : History) (found : FoundRace) (places : List ℕ) (s : State) → IsRaceOf h found → AreKept h.events found.keep places
    → FollowsKeep h found.keep places → ReplaysTo script h.events places s → ReachesRace script h found s
reaches_race script h found places s is kept follows r =
    let leaves = subst (λ es. LeavesEnabled es places (found.earlier ∷ found.later ∷ [])) r.same (kept_leave h found places is follows) in
    let conflict = subst (λ es. Conflict es found.earlier found.later) r.same is.race.conflict in
    let there = race_law script r.run r.end s places found.earlier found.later r.legal conflict leaves r.replayed in
    record {
      places = places;
      kept = kept;
      replayed = r;
      reached = turned script h.events s found.earlier found.later (subst (λ es. RaceReached script es s found.earlier found.later) (sym r.same) there);
    }

-- a thread that has a next call is running
pub is_running : (script : Script) (s : State) (event : Event) → NextCall script s event.thread event.op → IsRunning script s event.thread
is_running script s event next = record { awake = next.awake; some_left = λ none. (let full = sym none ∙ next.next in cc) }

-- a thread that can step after a run is one of the script
within_script : (script : Script) (trace : List Event) (places : List ℕ) (s : State) (t : ℕ) → ReplaysTo script trace places s → CanStep script s t → t < length script.bodies
within_script script trace places s t r (taken, s', own, step) =
    subst (λ u. u < length script.bodies) own
    (thread_inside script s s' taken (run_inside script (along r.run places) (start script) s (none_at_start script) r.replayed) step)

-- a thread that is ready after a run is running
ready_runs : (script : Script) (trace : List Event) (places : List ℕ) (m : Held) (event : Event) → m.script ≡ script → ReplaysTo script trace places (meaning m)
    → Ready script (meaning m) event → IsRunningIn m event.thread
ready_runs script trace places m event same r ready = record {
  within = rw same (within_script script trace places (meaning m) event.thread r ready.can);
  running = subst (λ z. IsRunning z (meaning m) event.thread) (sym same) (is_running script (meaning m) event ready.next);
}

-- what holds of two elements holds of all
pub all_two : (P : ℕ → Type 0) (a b : ℕ) → P a → P b → All P (a ∷ b ∷ [])
all_two P a b at_a at_b zero d less = at_a
all_two P a b at_a at_b (suc zero) d less = at_b
all_two P a b at_a at_b (suc (suc k)) d less = absurd (omega arith)

-- the threads of the two places are running in the machine where the race is reached
pub both_run : (script : Script) (h : History) (found : FoundRace) (m : Held) → m.script ≡ script → (there : ReachesRace script h found (meaning m))
    → All (IsRunningIn m) (there.reached.first.thread ∷ there.reached.second.thread ∷ [])
both_run script h found m same there = all_two (IsRunningIn m) _ _
    (ready_runs script h.events there.places m there.reached.first same there.replayed there.reached.first_ready.now)
    (ready_runs script h.events there.places m there.reached.second same there.replayed there.reached.second_ready.now)

-- what the replay leaves
pub is_replay : (script : Script) (h : History) (found : FoundRace) (m : Held) (threads : List ℕ) → m.script ≡ script → (there : ReachesRace script h found (meaning m))
    → there.reached.first.thread ∷ there.reached.second.thread ∷ [] ≡ threads → IsRaceReplay script h found (record { machine = m; threads = threads })
is_replay script h found m threads same there are = record { same_script = same; reaches = there; threads = sym are }
