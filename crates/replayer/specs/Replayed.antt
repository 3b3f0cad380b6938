-- What the replay of a finding leaves.
use Rattle.std.specs.Prelude.{◌≡◌, ◌<◌, ℕ, List, [], ◌∷◌, length, Some, All}
use Rattle.std.specs.List.{AllZip}
use Rattle.trace_laws.specs.declared.finding.Finding.{Finding}
use Rattle.trace_laws.specs.declared.finding.Finding.TheVariants.{Race, Deadlock}
use Rattle.trace_laws.specs.Traces.{History}
use Rattle.trace_laws.specs.Kept.{AreKept}
use Rattle.trace_laws.specs.Trace.{thread_at}
use Rattle.trace_laws.specs.Patterns.{Class, IsPattern}
use Rattle.trace_laws.specs.Findings.{FoundRace, FoundDeadlock, IsKeep, Races, Deadlock as IsDeadlock, by_reorderings}
use Rattle.trace_laws.specs.Stored.{race_of, deadlock_of}
use Rattle.script_machine.specs.Machine.{Script, State, IsRunning}
use Rattle.script_machine.specs.Held.{Held, meaning}
use Rattle.replayer.specs.Replays.{RaceReached, DeadlockReached, ReplaysTo}

-- a race of the trace, with the keep of its two places
pub record IsRaceOf (h : History) (found : FoundRace) : Type 0 where
  pub race : Races h.events found.earlier found.later
  pub keep : IsKeep h.events h.threads (by_reorderings h.events) (found.earlier ∷ found.later ∷ []) found.keep

-- an instance of a pattern of the trace that is a deadlock, with the keep of its picks
pub record IsDeadlockOf (h : History) (found : FoundDeadlock) : Type 0 where
  pub pattern : List Class
  pub is_pattern : IsPattern h.events pattern
  pub deadlock : IsDeadlock h.events pattern found.picks
  pub keep : IsKeep h.events h.threads (by_reorderings h.events) found.picks found.keep

-- the finding is one of the trace
abbrev pub IsFindingOf : History → Finding → Type 0
IsFindingOf h (Race r keep) = IsRaceOf h (race_of (Race r keep))
IsFindingOf h (Deadlock picks keep) = IsDeadlockOf h (deadlock_of (Deadlock picks keep))

-- the picks of a finding: of a race the later place and then the earlier one, of a deadlock its picks
abbrev pub picks_in : Finding → List ℕ
picks_in (Race r keep) = r.later ∷ r.earlier ∷ []
picks_in (Deadlock picks keep) = picks

-- how many events of each thread a finding needs
abbrev pub keep_in : Finding → List ℕ
keep_in (Race r keep) = keep
keep_in (Deadlock picks keep) = keep

-- a machine, and threads of its script
pub record Replayed : Type 0 where
  pub machine : Held
  pub threads : List ℕ

-- the thread is one of the machine's script, and it is running
pub record IsRunningIn (machine : Held) (t : ℕ) : Type 0 where
  pub within : t < length machine.script.bodies
  pub running : IsRunning machine.script (meaning machine) t

-- each of the threads is running in the machine
abbrev pub AreRunning : Replayed → Type 0
AreRunning r = All (IsRunningIn r.machine) r.threads

-- The kept events of a race, taken as steps from the start, lead to the state, and the race is reached there.
pub record ReachesRace (script : Script) (h : History) (found : FoundRace) (s : State) : Type 0 where
  pub places : List ℕ
  pub kept : AreKept h.events found.keep places
  pub replayed : ReplaysTo script h.events places s
  pub reached : RaceReached script h.events s found.later found.earlier

-- What the replay of a race leaves: the machine of the script after the kept events, where the race is reached,
-- and the threads of the later and of the earlier place.
pub record IsRaceReplay (script : Script) (h : History) (found : FoundRace) (r : Replayed) : Type 0 where
  pub same_script : r.machine.script ≡ script
  pub reaches : ReachesRace script h found (meaning r.machine)
  pub threads : r.threads ≡ reaches.reached.first.thread ∷ reaches.reached.second.thread ∷ []

-- The kept events of a deadlock, taken as steps from the start, lead to the state, and the deadlock is reached there.
pub record ReachesDeadlock (script : Script) (h : History) (found : FoundDeadlock) (s : State) : Type 0 where
  pub places : List ℕ
  pub kept : AreKept h.events found.keep places
  pub replayed : ReplaysTo script h.events places s
  pub reached : DeadlockReached script h.events s found.picks

-- What the replay of a deadlock leaves: the machine of the script after the kept events, where the deadlock is reached,
-- and the threads of the picks.
pub record IsDeadlockReplay (script : Script) (h : History) (found : FoundDeadlock) (r : Replayed) : Type 0 where
  pub same_script : r.machine.script ≡ script
  pub reaches : ReachesDeadlock script h found (meaning r.machine)
  pub threads : AllZip (λ p t. thread_at h.events p ≡ Some t) found.picks r.threads

-- what the replay of a finding leaves
abbrev pub IsReplayOf : Script → History → Finding → Replayed → Type 0
IsReplayOf script h (Race r keep) replay = IsRaceReplay script h (race_of (Race r keep)) replay
IsReplayOf script h (Deadlock picks keep) replay = IsDeadlockReplay script h (deadlock_of (Deadlock picks keep)) replay
