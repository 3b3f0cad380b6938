use Rattle.std.proofs.Common.{◌≡◌, ◌≤◌, ℕ, Some, length, vec_len, vec_capacity}
use Rattle.std.specs.Prelude.{All, slice_get}
use Rattle.recorder.specs.declared.pass.Pass.{Pass}
use Rattle.recorder.specs.Passes.{IsPassOf, IsNewPass}
use Rattle.recorder.proofs.seats.passes_of.Given as goal

abbrev pub invariant-loop-seat : goal.invariant-loop-seat
invariant-loop-seat l = record {
  many : vec_len l.passes ≡ length l.yielded;
  room : vec_len l.fn.seats ≤ vec_capacity l.passes;
  of : All (λ pass. IsPassOf l.manager pass) l.passes.items;
  fresh : (k : ℕ) (pass : Pass) → slice_get l.passes.items k ≡ Some pass → IsNewPass k pass;
}
