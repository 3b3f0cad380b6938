use Rattle.std.proofs.Common.{◌≡◌, ◌≤◌, vec_len, vec_capacity}
use Rattle.std.specs.Prelude.{All, None}
use Rattle.predictor.proofs.joined.empty_slots.Given as goal

abbrev pub invariant-loop : goal.invariant-loop
invariant-loop l = record {
  size : vec_len l.slots ≡ l.counter;
  room : l.places ≤ vec_capacity l.slots;
  empty : All (λ slot. slot ≡ None) l.slots.items;
}
