use Rattle.syncp.specs.Modes.{task_of}
use Rattle.syncp.specs.Tasks.{Task}
use Rattle.syncp.proofs.Ran.{refused_means, refusal_answers}
use Rattle.syncp.proofs.run.run_in.Goals as goal

pub returns-in-Refused-clause-outcome : goal.returns-in-Refused-clause-outcome
returns-in-Refused-clause-outcome g c =
    let task : Task = task_of c.args.reading in
    let read = c.in-Refused.ensures.outcome in
    let told = c.refuse.ensures.told in
    (read.0, read.1, (read.2.0, (read.2.1.0, read.2.1.1, (told.0, told.1, refused_means task _ _ read.0 read.2.1.0 told.0 c.in-Refused.fault c.refuse.result read.2.1.2 told.2))))

pub returns-in-Refused-clause-complete : goal.returns-in-Refused-clause-complete
returns-in-Refused-clause-complete g c = λ all left std kept_source kept_out.
    let task : Task = task_of c.args.reading in
    let told = c.refuse.ensures.told in
    refusal_answers task.passes _ c.in-Refused.fault c.refuse.result told.0 told.2 (c.in-Refused.ensures.complete all left std kept_source kept_out)
