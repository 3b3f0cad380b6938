use Rattle.std.proofs.Common.{◌≤◌, length, arith}
use Rattle.trace_laws.specs.declared.event.Op.TheVariants.{Read}
use Rattle.trace_laws.proofs.Places.{within_from_op}
use Rattle.closed_fronts.proofs.Releasing.{all_released}
use Rattle.closed_fronts.proofs.places.Places.build.Goals as goal

pub invariant_of-result : goal.invariant_of-result
invariant_of-result c =
    let events = c.args.trace.now.events in
    let at = c.loop-place in
    let trace = c.len-place-end.ensures.trace in
    let size = c.len-place-end.ensures.value in
    let past = c.loop-place-test.false in
    let all : length events ≤ at.place = omega arith in
    record {
      trace = trace;
      locals_size = at.invariant.locals.places;
      writers_size = at.invariant.writers.places;
      releases_size = at.invariant.sections.places;
      locals = λ p k less read. at.invariant.locals.numbered p k (omega arith) read;
      writers = λ r v o reads read. let within = within_from_op events r (Read v) reads in at.invariant.writers.written r v o (omega arith) reads read;
      releases = λ a l o op read. all_released events at.place at.sections.held.items at.sections.releases.items at.invariant.sections all a l o op read;
    }
