use Rattle.closed_fronts.proofs.ties.Ties.release.Goals as goal

pub returns : goal.returns
returns c = rw (← c.self.view_is) c.release.ensures
