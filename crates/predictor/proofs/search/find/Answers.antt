use Rattle.std.proofs.Common.{subst, ◌∙◌}
use Rattle.trace_laws.specs.Traces.{History}
use Rattle.predictor.specs.Predictions.{ArePredictions}
use Rattle.predictor.proofs.Deadly.{predicted, ranked}
use Rattle.predictor.proofs.search.find.Goals as goal

pub find_by_jobs-requires-clause-ranked : goal.find_by_jobs-requires-clause-ranked
find_by_jobs-requires-clause-ranked g c = λ _ _. ranked c.in_ok-classes.classes c.args.size c.in_ok-patterns.patterns c.requires.greatest_size c.in_ok-patterns.ensures.listed

pub returns-clause-found : goal.returns-clause-found
returns-clause-found g c =
    let found = c.in_ok-find_by_jobs.field-0 in
    subst (λ (h : History). ArePredictions h c.args.size found) (c.in_ok-classes.ensures.trace ∙ c.in_ok-index.ensures)
    (predicted c.args.size c.in_ok-classes.classes c.in_ok-patterns.patterns found c.len.ensures.trace c.in_ok-patterns.ensures.listed c.in_ok-find_by_jobs.ensures.races c.in_ok-find_by_jobs.ensures.deadlocks)
