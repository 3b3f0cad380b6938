use Rattle.std.proofs.Common.{ap, subst, Err, [], inr, refl}
use Rattle.std.specs.Io.KnownBytes.{Consumes}
use Rattle.syncp.specs.RecordMode.{Record}
use Rattle.std.proofs.KnownBytes.{Appends-nil}
use Rattle.syncp.proofs.Ran.{nothing_written, reading_completes}
use Rattle.syncp.proofs.ReadWhole.{script_not_refused}
use Rattle.syncp.proofs.Recordings.{front_recorded, recorded}
use Rattle.syncp.proofs.record_mode.record_scripts.Goals as goal

pub returns-in-Err-clause-complete : goal.returns-in-Err-clause-complete
returns-in-Err-clause-complete g c = λ all left std kept_source kept_out.
    let read = c.in-Err.ensures.read in
    let rest = g.S.Source.left c.scripts_of.new.source in
    let took = subst (λ o. Consumes o rest read.0) left read.1 in
    reading_completes Record _ read.0 c.in-Err.fault (script_not_refused c.exclusive_law.ensures c.in-Err.fault rest all read.0 took std) read.2.1 (λ is. kept_source (c.in-Err.ensures.cause (ap Err is)))

pub returns-in-Err-clause-outcome : goal.returns-in-Err-clause-outcome
returns-in-Err-clause-outcome g c =
    let read = c.in-Err.ensures.read in
    (read.0, read.1, (read.2.0, ([], Appends-nil _, nothing_written Record _ c.in-Err.fault read.0 read.2.1)))

pub returns-in-Ok-write_recording-clause-outcome : goal.returns-in-Ok-write_recording-clause-outcome
returns-in-Ok-write_recording-clause-outcome g c =
    let read = c.in-Ok.ensures.read in
    let wrote = c.in-Ok-write_recording.ensures.text in
    let whole = recorded read.0 c.in-Ok.script c.in-Ok-record.recording read.2.1 c.in-Ok-record.ensures.script c.in-Ok-record.ensures.recording c.in-Ok-record.ensures.complete wrote.0 wrote.2 in
    (read.0, read.1, (read.2.0, (wrote.0, wrote.1, (whole, refl))))

pub returns-in-Err-Failed-clause-outcome : goal.returns-in-Err-Failed-clause-outcome
returns-in-Err-Failed-clause-outcome g c =
    let read = c.in-Ok.ensures.read in
    let wrote = c.in-Err-Failed.ensures.text in
    let front = front_recorded read.0 c.in-Ok.script c.in-Ok-record.recording read.2.1 c.in-Ok-record.ensures.script c.in-Ok-record.ensures.recording c.in-Ok-record.ensures.complete wrote.0 wrote.2 in
    (read.0, read.1, (read.2.0, (wrote.0, wrote.1, (front, c.in-Ok.ensures.ended))))

pub returns-clause-outcome : goal.returns-clause-outcome
returns-clause-outcome g c =
    let read = c.in-Ok.ensures.read in
    let wrote = c.in-Err-OutOfMemory.ensures.text in
    let front = front_recorded read.0 c.in-Ok.script c.in-Ok-record.recording read.2.1 c.in-Ok-record.ensures.script c.in-Ok-record.ensures.recording c.in-Ok-record.ensures.complete wrote.0 wrote.2 in
    (read.0, read.1, (read.2.0, (wrote.0, wrote.1, inr (front, c.in-Ok.ensures.ended))))
