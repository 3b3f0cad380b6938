use Rattle.std.proofs.Common.{◌≡◌, take}
use Rattle.trace_laws.specs.Locations.{DoTheSame}
use Rattle.script_machine.proofs.recording.Recording.of.Given as goal

abbrev pub invariant-loop-place : goal.invariant-loop-place
invariant-loop-place l = record {
  script : l.run.machine.script ≡ l.script;
  same : DoTheSame l.run.events (take l.place l.trace.events);
}
