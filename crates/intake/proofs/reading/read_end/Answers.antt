use Rattle.std_text.specs.Framing.{closed}
use Rattle.intake.proofs.ReaderAnswers.{taken}
use Rattle.intake.proofs.reading.read_end.Goals as goal

pub returns-clause-read : goal.returns-clause-read
returns-clause-read c = λ p is.
    let e = taken c.args.reader c.close.new.self closed c.in_default.ensures.read p is c.in_default.field-0 c.in_default.ensures.answer in
    (e.0, e.1, rw e.2 at c.finish.ensures.trace, rw e.2 at c.finish.ensures.names)
