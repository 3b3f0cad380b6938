use Rattle.closed_fronts.proofs.fronts.Fronts.torn.Goals as goal

pub returns-clause-none : goal.returns-clause-none
returns-clause-none c = rw (← c.self.view_is) c.torn.ensures.none
