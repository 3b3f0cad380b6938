use Rattle.std.proofs.Common.{map}
use Rattle.predictor.specs.Parts.{race_found, AreFilled}
use Rattle.predictor.proofs.joined.fill_slots.Given as goal

abbrev pub invariant-loop-race : goal.invariant-loop-race
invariant-loop-race l = AreFilled l.trace l.fn.slots.items (map race_found l.yielded) l.slots.items
