use Rattle.closed_fronts.specs.Linked.{AreLinked}
use Rattle.closed_fronts.proofs.links.link.Given as goal

abbrev pub invariant-loop-place : goal.invariant-loop-place
invariant-loop-place l = AreLinked l.places.events l.places.threads l.place l.links
