use Rattle.std.proofs.Common.{ℕ, List, subst}
use Rattle.std.specs.Prelude.{Vec}
use Rattle.std.specs.declared.alloc.Global.{Global}
use Rattle.trace_index.specs.Listed.{IsListOf}
use Rattle.trace_index.proofs.Accessing.{all_accesses}
use Rattle.trace_index.proofs.index.Index.accesses.Goals as goal

pub returns : goal.returns
returns c =
    let x = c.self.inside in
    let is : IsListOf x.accesses.items c.value.result c.list.result.now = subst (λ (l : List (Vec ℕ Global)). IsListOf l c.value.result c.list.result.now) c.deref.ensures.value c.list.ensures in
    rw (← c.self.view_is) (all_accesses x.fronts.events c.args.var x.accesses.items c.list.result.now c.self.invariant.accesses (subst (λ n. IsListOf x.accesses.items n c.list.result.now) c.value.ensures.value is))
