use Rattle.std.proofs.Common.{[], arith}
use Rattle.std.proofs.KnownBytes.{Consumes-nil}
use Rattle.syncp.proofs.Drawn.{drawn_answers, drawn_ended, drawn_explains, drawn_never_read}
use Rattle.syncp.proofs.modes.outcome_of.Goals as goal

pub returns-in-Bench-clause-outcome : goal.returns-in-Bench-clause-outcome
returns-in-Bench-clause-outcome g c =
    let wrote = c.bench.ensures.outcome in
    ([], Consumes-nil _, (omega arith, (wrote.0, wrote.1, drawn_explains c.args.reading c.in-Bench.is _ _ wrote.0 wrote.2)))

pub returns-in-Bench-clause-ended : goal.returns-in-Bench-clause-ended
returns-in-Bench-clause-ended g c = λ _. drawn_ended c.args.reading c.in-Bench.is _

pub returns-in-Bench-clause-read : goal.returns-in-Bench-clause-read
returns-in-Bench-clause-read g c = λ is.
    let wrote = c.bench.ensures.outcome in
    absurd (drawn_never_read _ _ _ _ wrote.0 wrote.2 is)

pub returns-in-Bench-clause-complete : goal.returns-in-Bench-clause-complete
returns-in-Bench-clause-complete g c = λ all input std kept_source kept_out.
    drawn_answers c.args.reading c.in-Bench.is _ (λ few. c.bench.ensures.complete few kept_out) all std
