-- The replay of a finding along its kept events.
use Rattle.std.proofs.Common.{◌≡◌, ◌<◌, ℕ, List, [], ◌∷◌, All, length, Some, slice_get, sym, ap, ◌∙◌}
use Rattle.std.specs.List.{AllZip}
use Rattle.std.specs.Option.{option_map}
use Rattle.std.proofs.lemmas.List.Elements.{Contains-get_or}
use Rattle.trace_laws.specs.Event.{Event}
use Rattle.trace_laws.specs.Trace.{thread_at}
use Rattle.trace_laws.specs.Traces.{History}
use Rattle.trace_laws.specs.Kept.{AreKept}
use Rattle.trace_laws.specs.Reordering.{CorrectReordering}
use Rattle.trace_laws.specs.Stored.{race_of, deadlock_of}
use Rattle.trace_laws.specs.declared.finding.Finding.{Finding}
use Rattle.trace_laws.specs.declared.finding.Finding.TheVariants.{Race, Deadlock}
use Rattle.trace_laws.proofs.Places.{contains_head, contains_tail}
use Rattle.script_machine.specs.Machine.{Script}
use Rattle.script_machine.specs.Held.{Held, meaning}
use Rattle.replayer.specs.Reorders.{FollowsKeep}
use Rattle.replayer.specs.Replays.{ReplaysTo}
use Rattle.replayer.specs.Replayed.{Replayed, IsFindingOf, IsReplayOf, AreRunning, picks_in, keep_in}
use Rattle.replayer.proofs.KeptRaces.{kept_leave, reaches_race, all_two, both_run, is_replay}
use Rattle.replayer.proofs.KeptDeadlocks.{kept_leave_picks, picks_within, reaches_deadlock, picks_run}

-- the keep has a count for each thread
pub keep_long : (h : History) (f : Finding) → IsFindingOf h f → length (keep_in f) ≡ h.threads
keep_long h (Race r keep) is = is.keep.size
keep_long h (Deadlock picks keep) is = is.keep.size

-- the kept places are a correct reordering
pub kept_correct : (h : History) (f : Finding) (kept : List ℕ) → IsFindingOf h f → FollowsKeep h (keep_in f) kept → CorrectReordering h.events kept
kept_correct h (Race r keep) kept is follows = (kept_leave h (race_of (Race r keep)) kept is follows).correct
kept_correct h (Deadlock picks keep) kept is follows = (kept_leave_picks h (deadlock_of (Deadlock picks keep)) kept is follows).correct

-- the picks of the finding are places of the trace
pub finding_within : (h : History) (f : Finding) (kept : List ℕ) → IsFindingOf h f → FollowsKeep h (keep_in f) kept → All (λ p. p < length h.events) (picks_in f)
finding_within h (Race r keep) kept is follows =
    let leaves = kept_leave h (race_of (Race r keep)) kept is follows in
    all_two (λ p. p < length h.events) r.later r.earlier
    (leaves.enabled r.later (contains_tail r.earlier (r.later ∷ []) r.later (contains_head r.later []))).within
    (leaves.enabled r.earlier (contains_head r.earlier (r.later ∷ []))).within
finding_within h (Deadlock picks keep) kept is follows =
    λ k d less. picks_within h (deadlock_of (Deadlock picks keep)) kept is follows _ (Contains-get_or picks k d less)

-- the threads of the events at two places
two_threads : (events : List Event) (p q : ℕ) (a b : Event) (threads : List ℕ) → slice_get events p ≡ Some a → slice_get events q ≡ Some b
    → AllZip (λ k t. thread_at events k ≡ Some t) (p ∷ q ∷ []) threads → a.thread ∷ b.thread ∷ [] ≡ threads
two_threads events p q a b [] at_a at_b zip = absurd zip
two_threads events p q a b (x ∷ []) at_a at_b zip = absurd zip.1
two_threads events p q a b (x ∷ y ∷ []) at_a at_b zip =
    let one : Some a.thread ≡ Some x = sym (ap (option_map (λ (e : Event). e.thread)) at_a) ∙ zip.0 in
    let two : Some b.thread ≡ Some y = sym (ap (option_map (λ (e : Event). e.thread)) at_b) ∙ zip.1.0 in
    cc
two_threads events p q a b (x ∷ y ∷ z ∷ zs) at_a at_b zip = absurd zip.1.1

-- what the replay leaves
pub is_replay_of : (script : Script) (h : History) (f : Finding) (m : Held) (kept threads : List ℕ) → m.script ≡ script → IsFindingOf h f → AreKept h.events (keep_in f) kept
    → FollowsKeep h (keep_in f) kept → ReplaysTo script h.events kept (meaning m) → AllZip (λ p t. thread_at h.events p ≡ Some t) (picks_in f) threads
    → IsReplayOf script h f (record { machine = m; threads = threads })
is_replay_of script h (Race r keep) m kept threads same is are follows replayed zip =
    let there = reaches_race script h (race_of (Race r keep)) kept (meaning m) is are follows replayed in
    is_replay script h (race_of (Race r keep)) m threads same there
    (two_threads h.events r.later r.earlier there.reached.first there.reached.second threads there.reached.at_first there.reached.at_second zip)
is_replay_of script h (Deadlock picks keep) m kept threads same is are follows replayed zip = record {
  same_script = same;
  reaches = reaches_deadlock script h (deadlock_of (Deadlock picks keep)) kept (meaning m) is are follows replayed;
  threads = zip;
}

-- so each of the threads is running
pub threads_run : (script : Script) (h : History) (f : Finding) (r : Replayed) → IsReplayOf script h f r → AreRunning r
threads_run script h (Race race keep) r is = rw is.threads (both_run script h (race_of (Race race keep)) r.machine is.same_script is.reaches)
threads_run script h (Deadlock picks keep) r is = picks_run script h (deadlock_of (Deadlock picks keep)) r.machine r.threads is.same_script is.reaches is.threads
