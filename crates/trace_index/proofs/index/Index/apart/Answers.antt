use Rattle.trace_index.proofs.HeldNumbers.{none_common}
use Rattle.trace_index.proofs.index.Index.apart.Goals as goal

pub returns : goal.returns
returns c =
    let both = none_common c.args.self.now.events c.args.a c.args.b c.held.result.now c.held-2.result.now c.held.ensures c.held-2.ensures in
    (λ t. both.0 (c.are_apart.ensures.0 t), λ h. c.are_apart.ensures.1 (both.1 h))
