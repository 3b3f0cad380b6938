use Rattle.std.proofs.Common.{◌≡◌, ◌≤◌, take, not}
use Rattle.std.specs.Prelude.{count_by}
use Rattle.stamp_pool.proofs.pool.Pool.free.Given as goal

abbrev pub invariant-loop-place : goal.invariant-loop-place
invariant-loop-place l = record {
  counted : l.free ≡ count_by not (take l.place l.self-inside.lent.items);
  few : l.free ≤ l.place;
}
