use Rattle.std.proofs.Common.{[]}
use Rattle.syncp.specs.BenchMode.{Bench}
use Rattle.syncp.proofs.Answering.{completes, explained, not_write}
use Rattle.syncp.proofs.Drawn.{drawn_not_refused, no_read_fault, sure}
use Rattle.syncp.proofs.bench_mode.bench.Goals as goal

pub returns-clause-outcome : goal.returns-clause-outcome
returns-clause-outcome g c =
    let wrote = c.write_answer.ensures.outcome in
    (wrote.0, wrote.1, explained (Bench c.args.size c.args.seed c.args.events) (Unit {0}) [] _ _ wrote.0 c.bench_of_seed-answer.ensures (sure _) wrote.2)

pub returns-clause-write : goal.returns-clause-write
returns-clause-write g c = λ is. c.write_answer.ensures.write is (not_write (Bench c.args.size c.args.seed c.args.events) (Unit {0}) [] _ c.bench_of_seed-answer.ensures)

pub returns-clause-complete : goal.returns-clause-complete
returns-clause-complete g c = λ few kept_out.
    let wrote = c.write_answer.ensures.outcome in
    completes (Bench c.args.size c.args.seed c.args.events) (Unit {0}) [] _ _ wrote.0 c.bench_of_seed-answer.ensures wrote.2 (drawn_not_refused c.args.size c.args.seed c.args.events few)
    (no_read_fault c.args.size c.args.seed c.args.events _ c.bench_of_seed-answer.ensures)
    (λ is. kept_out (c.write_answer.ensures.write is (not_write (Bench c.args.size c.args.seed c.args.events) (Unit {0}) [] _ c.bench_of_seed-answer.ensures)))
