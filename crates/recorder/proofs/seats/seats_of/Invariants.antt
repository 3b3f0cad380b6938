use Rattle.std.proofs.Common.{◌≡◌, ◌≤◌, length, map, vec_len, vec_capacity}
use Rattle.recorder.proofs.seats.seats_of.Given as goal

abbrev pub invariant-loop-pass : goal.invariant-loop-pass
invariant-loop-pass l = record {
  items : l.seats.items ≡ map (λ pass. pass.seat) l.yielded;
  many : vec_len l.seats ≡ length l.yielded;
  room : vec_len l.fn.passes ≤ vec_capacity l.seats;
}
