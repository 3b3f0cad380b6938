use Rattle.closed_fronts.specs.Numbers.{AreNumbered}
use Rattle.closed_fronts.specs.Writers.{AreWriters}
use Rattle.closed_fronts.specs.Sections.{AreReleases}
use Rattle.closed_fronts.proofs.places.Places.build.Given as goal

abbrev pub invariant-loop-place : goal.invariant-loop-place
invariant-loop-place l = record {
  locals : AreNumbered l.trace.events l.place l.locals.counts.items l.locals.numbers.items;
  writers : AreWriters l.trace.events l.place l.writers.last.items l.writers.writers.items;
  sections : AreReleases l.trace.events l.place l.sections.held.items l.sections.releases.items;
}
