use Rattle.std.proofs.Common.{ap, not, rules, tests}
use Rattle.std.proofs.lemmas.Iterator.{YieldsList-from_slice}
use Rattle.std.proofs.lemmas.Iterator.Search.{any_from_yields_List}
use Rattle.drawn_trace.specs.Drawn.{holds_lock}
use Rattle.drawn_trace.proofs.held.is_free.Goals as goal

pub returns : goal.returns
returns c =
    ap not (any_from_yields_List (λ locks. holds_lock locks c.args.lock) _ _ c.any.result c.any.ensures.ran (YieldsList-from_slice c.args.held.now cc) (λ x b q k. search (rules, tests)))
