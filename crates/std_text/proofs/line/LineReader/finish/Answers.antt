use Rattle.std_text.proofs.NamedLemmas.{named_below}
use Rattle.std_text.proofs.line.LineReader.finish.Goals as goal

pub finish-requires-clause-named : goal.finish-requires-clause-named
finish-requires-clause-named c = rw c.threads-threads.ensures (named_below _ _ c.self.invariant.named)
