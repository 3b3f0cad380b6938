use Rattle.std.proofs.Common.{◌≡◌, ℕ, [], length}
use Rattle.std.specs.Prelude.{All, Vec}
use Rattle.std.specs.declared.alloc.Global.{Global}
use Rattle.trace_index.proofs.holdings.Holdings.new.Given as goal

abbrev pub invariant-loop : goal.invariant-loop
invariant-loop l = record {
  size : length l.held.items ≡ l.counter;
  empty : All (λ (v : Vec ℕ Global). v.items ≡ []) l.held.items;
}
