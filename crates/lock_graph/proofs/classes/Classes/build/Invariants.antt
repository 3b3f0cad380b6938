use Rattle.lock_graph.specs.Listing.{AreNoted}
use Rattle.lock_graph.proofs.classes.Classes.build.Given as goal

abbrev pub invariant-loop-place : goal.invariant-loop-place
invariant-loop-place l = AreNoted l.index.events l.place l.listing.keys.keys l.listing.entries.items
