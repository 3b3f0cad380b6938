use Rattle.std.proofs.Common.{◌≡◌, [], Some, length}
use Rattle.std.specs.Prelude.{slice_get}
use Rattle.predictor.specs.declared.cut.Border.{Border}
use Rattle.predictor.proofs.Joining.{HasJoined}
use Rattle.predictor.proofs.joined.join_parts.Given as goal

abbrev pub invariant-loop-part : goal.invariant-loop-part
invariant-loop-part l = record {
  alone : l.found.races ≡ [];
  joined : (b : Border) → slice_get l.borders (length l.yielded) ≡ Some b → HasJoined l.classes l.patterns b l.slots.items l.found;
}
