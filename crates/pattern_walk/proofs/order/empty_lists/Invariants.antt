use Rattle.std.proofs.Common.{◌≡◌, ℕ, [], length}
use Rattle.std.specs.Prelude.{All, Vec}
use Rattle.std.specs.declared.alloc.Global.{Global}
use Rattle.pattern_walk.proofs.order.empty_lists.Given as goal

abbrev pub invariant-loop : goal.invariant-loop
invariant-loop l = record {
  size : length l.lists.items ≡ l.counter;
  empty : All (λ (v : Vec ℕ Global). v.items ≡ []) l.lists.items;
}
