use Rattle.std.proofs.Common.{sym, subst}
use Rattle.std.specs.Prelude.{Contains}
use Rattle.trace_index.proofs.index.Index.holds.Goals as goal

pub returns : goal.returns
returns c =
    let held = c.held.result.now in
    (λ t. (c.held.ensures.members c.args.lock).0 (subst (Contains held) c.value.ensures.value (c.has.ensures.0 t)), λ h. c.has.ensures.1 (subst (Contains held) (sym c.value.ensures.value) ((c.held.ensures.members c.args.lock).1 h)))
