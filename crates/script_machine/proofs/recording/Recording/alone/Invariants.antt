use Rattle.std.proofs.Common.{◌≡◌, ◌-◌, length}
use Rattle.script_machine.specs.Machine.{size_of}
use Rattle.script_machine.specs.Held.{meaning}
use Rattle.script_machine.specs.Lowest.{LegalLowestRun}
use Rattle.script_machine.proofs.recording.Recording.alone.Given as goal

abbrev pub invariant-loop-thread : goal.invariant-loop-thread
invariant-loop-thread l = record {
  script : l.run.machine.script ≡ l.script;
  lowest : LegalLowestRun l.script l.run.events (meaning l.run.machine);
}

abbrev pub decreases-loop-thread : goal.decreases-loop-thread
decreases-loop-thread l = size_of l.script - length l.run.events
