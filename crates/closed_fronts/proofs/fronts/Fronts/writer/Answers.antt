use Rattle.closed_fronts.proofs.fronts.Fronts.writer.Goals as goal

pub returns : goal.returns
returns c = rw (← c.self.view_is) c.writer.ensures
