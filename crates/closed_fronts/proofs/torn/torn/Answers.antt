use Rattle.closed_fronts.specs.Rows.{IsMended, AreUnbroken}
use Rattle.std.proofs.Common.{ℕ, subst}
use Rattle.closed_fronts.proofs.Told.{none_if, if_none_at}
use Rattle.closed_fronts.proofs.Mends.{mended_around}
use Rattle.closed_fronts.proofs.torn.torn.Goals as goal

pub returns-clause-none : goal.returns-clause-none
returns-clause-none c =
    let events = c.args.ties.now.events in
    let cuts = c.args.cuts.now in
    let behind = subst (λ (n : ℕ). AreUnbroken events cuts c.args.start n) c.threads.ensures c.in_default.ensures.none in
    none_if (IsMended events cuts) c.torn_between-2.result (λ is. mended_around events c.args.ties.now.threads c.args.start cuts c.len.ensures.trace.named behind (if_none_at (AreUnbroken events cuts 0 c.args.start) c.torn_between-2.result c.torn_between-2.ensures.none is))
