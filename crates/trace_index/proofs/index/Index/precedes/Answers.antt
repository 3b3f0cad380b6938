use Rattle.trace_index.proofs.index.Index.precedes.Goals as goal

pub returns : goal.returns
returns c = λ test. rw (← c.self.view_is) (c.precedes.ensures test)
