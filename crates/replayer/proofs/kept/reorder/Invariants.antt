use Rattle.std.proofs.Common.{◌≡◌}
use Rattle.std.specs.List.{sum}
use Rattle.replayer.proofs.Keeping.{AreKeptBefore}
use Rattle.replayer.proofs.kept.reorder.Given as goal

abbrev pub invariant-loop-place : goal.invariant-loop-place
invariant-loop-place l = record {
  kept : AreKeptBefore l.trace.events l.keep l.place l.left.items l.places.items;
  rest : l.rest ≡ sum l.left.items;
}
