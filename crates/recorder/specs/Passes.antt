-- What contracts see of a manager and of its passes.
use Rattle.std.specs.Prelude.{◌≡◌, ◌++◌, ◌<◌, ℕ, List, All, length}
use Rattle.trace_laws.specs.Event.{Event}
use Rattle.script_machine.specs.Machine.{Script}
use Rattle.seat_lock.specs.Shown.{given, IsSeatOf}
use Rattle.row_locks.specs.Tallies.{events_by}
use Rattle.recorder.specs.declared.manager.Manager.{Manager}
use Rattle.recorder.specs.declared.pass.Pass.{Pass}

-- the script that the manager runs
abbrev pub manager_script : Manager → Script
manager_script manager = (given manager.lock).machine.script

-- the thread that makes its calls with the pass
abbrev pub pass_thread : Pass → ℕ
pass_thread pass = pass.thread

-- how many calls of the pass were granted
abbrev pub pass_granted : Pass → ℕ
pass_granted pass = pass.granted

-- the pass is of the manager: it has a seat of the manager's lock, and its thread is one of the script
pub record IsPassOf (manager : Manager) (pass : Pass) : Type 0 where
  pub seat : IsSeatOf manager.lock pass.seat
  pub thread : pass_thread pass < length (manager_script manager).bodies

-- the pass is that of thread k, and no call was granted
pub record IsNewPass (k : ℕ) (pass : Pass) : Type 0 where
  pub thread : pass_thread pass ≡ k
  pub granted : pass_granted pass ≡ 0

-- At the front are as many events of each pass's thread as it had granted calls, and behind them what the caller made.
pub record AreGranted (passes : List Pass) (events : List Event) : Type 0 where
  pub front : List Event
  pub more : List Event
  pub parts : events ≡ front ++ more
  pub counts : All (λ pass. events_by (pass_thread pass) front ≡ pass_granted pass) passes
