use Rattle.std.proofs.Common.{◌≡◌, ◌≤◌, ◌<◌, ℕ, [], length, Some}
use Rattle.std.specs.Prelude.{max, slice_get, Vec}
use Rattle.std.specs.declared.alloc.Global.{Global}
use Rattle.trace_index.proofs.place_lists.pad.Given as goal

abbrev pub invariant-loop : goal.invariant-loop
invariant-loop l = record {
  size : length l.lists.items ≡ l.counter;
  within : l.counter ≤ max (length l.fn.lists.items) l.end;
  kept : (x : ℕ) (places : Vec ℕ Global) → x < length l.fn.lists.items → slice_get l.lists.items x ≡ Some places → slice_get l.fn.lists.items x ≡ Some places;
  empty : (x : ℕ) (places : Vec ℕ Global) → length l.fn.lists.items ≤ x → slice_get l.lists.items x ≡ Some places → places.items ≡ [];
}
