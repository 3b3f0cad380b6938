use Rattle.drawn_trace.proofs.Readable.{Drew}
use Rattle.drawn_trace.proofs.text.draw.Given as goal

-- the turns so far
abbrev pub invariant-loop : goal.invariant-loop
invariant-loop l = Drew l.seed l.events l.counter l.drawing l.text.items
