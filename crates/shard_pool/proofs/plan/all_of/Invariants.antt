use Rattle.std.proofs.Common.{◌≡◌, ◌≤◌, map, Ok, length, vec_len, vec_capacity}
use Rattle.shard_pool.proofs.plan.all_of.Given as goal

abbrev pub invariant-loop-share : goal.invariant-loop-share
invariant-loop-share g l = record {
  many : vec_len l.shares ≡ length l.yielded;
  room : vec_len l.fn.done ≤ vec_capacity l.shares;
  all : map Ok l.shares.items ≡ l.yielded;
}
