use Rattle.std.proofs.Common.{◌≡◌, ◌≤◌, length, vec_len, vec_capacity}
use Rattle.std.specs.Prelude.{All}
use Rattle.recorder.proofs.workers.workers_of.Given as goal

abbrev pub invariant-loop-pass : goal.invariant-loop-pass
invariant-loop-pass l = record {
  many : vec_len l.workers ≡ length l.yielded;
  room : vec_len l.fn.passes ≤ vec_capacity l.workers;
  manager : All (λ worker. worker.manager.now ≡ l.manager) l.workers.items;
}
