use Rattle.std.proofs.Common.{◌≡◌, ◌++◌, ◌-◌, List, length}
use Rattle.trace_laws.specs.Event.{Event}
use Rattle.script_machine.specs.Machine.{size_of}
use Rattle.recorder.proofs.steps.complete.Given as goal

abbrev pub invariant-loop-thread : goal.invariant-loop-thread
invariant-loop-thread l = record {
  script : l.state.machine.script ≡ l.initial.state.machine.script;
  events : (more : List Event) × (l.state.events ≡ l.initial.state.events ++ more);
}

abbrev pub decreases-loop-thread : goal.decreases-loop-thread
decreases-loop-thread l = size_of l.state.machine.script - length l.state.events
