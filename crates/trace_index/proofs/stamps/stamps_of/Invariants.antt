use Rattle.std.proofs.Common.{◌≡◌, length}
use Rattle.trace_index.specs.Stamps.{AreStamps}
use Rattle.trace_index.proofs.stamps.stamps_of.Given as goal

abbrev pub invariant-loop-place : goal.invariant-loop-place
invariant-loop-place l = record {
  row : length l.row.items ≡ l.fronts.threads;
  stamps : AreStamps l.fronts.events l.fronts.threads l.place l.stamps.items;
}
