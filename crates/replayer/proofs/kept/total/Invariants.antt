use Rattle.std.proofs.Common.{◌≡◌, ◌*◌, ◌≤◌, take}
use Rattle.std.specs.List.{sum}
use Rattle.replayer.proofs.kept.total.Given as goal

abbrev pub invariant-loop-count : goal.invariant-loop-count
invariant-loop-count l = record {
  sum_is : l.total ≡ sum (take l.count-index l.counts);
  within : l.total ≤ 4294967295 * l.count-index;
}
