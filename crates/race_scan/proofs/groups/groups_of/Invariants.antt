use Rattle.race_scan.specs.Grouped.{AreGroupsUpTo}
use Rattle.race_scan.proofs.groups.groups_of.Given as goal

abbrev pub invariant-loop-position : goal.invariant-loop-position
invariant-loop-position l = AreGroupsUpTo l.index.events l.places l.position l.groups.items
