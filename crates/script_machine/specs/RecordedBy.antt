-- What the fields of a run and of a recording stand for.
use Rattle.std.specs.Prelude.{◌≡◌}
use Rattle.script_machine.specs.Machine.{size_of}
use Rattle.script_machine.specs.Recorded.{Running, IsRun, Recorded, IsRecording}
use Rattle.script_machine.specs.declared.run.Run.TheInside.{Inside as RunFields}
use Rattle.script_machine.specs.declared.recording.Recording.TheInside.{Inside as RecordingFields}

-- the events of the builder, and the machine
abbrev pub running_of : RunFields → Running
running_of r = record { machine = r.machine; events = r.builder.events }

-- the events are a run, and there is room for all that may come
pub record IsSoundRun (r : RunFields) : Type 0 where
  pub run : IsRun (running_of r)
  pub capacity : r.builder.capacity ≡ size_of r.machine.script

-- the trace and the machine
abbrev pub recording_of : RecordingFields → Recorded
recording_of r = record { machine = r.machine; trace = r.trace }

-- the trace is a run
abbrev pub IsSoundRecording : RecordingFields → Type 0
IsSoundRecording r = IsRecording (recording_of r)
