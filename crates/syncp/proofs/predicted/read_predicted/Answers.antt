use Rattle.std.proofs.Common.{ap, Err, ◌∙◌}
use Rattle.std.specs.Io.KnownBytes.{IsAtEnd}
use Rattle.syncp.proofs.Predicting.{too_many}
use Rattle.syncp.proofs.predicted.read_predicted.Goals as goal

pub returns-in-Err-TooManyPatterns-clause-read : goal.returns-in-Err-TooManyPatterns-clause-read
returns-in-Err-TooManyPatterns-clause-read g c =
    let read = c.in_ok-trace.ensures.read in
    let rest = g.S.Source.left c.read_trace.new.source in
    let many = c.find.ensures.many (c.in-Err-TooManyPatterns.is ∙ ap Err c.in-Err-TooManyPatterns.field-0-is) in
    (read.0, read.1, (read.2.0, too_many (IsAtEnd rest) c.args.size c.in_ok-trace.trace c.in_ok-trace.names read.0 read.2.1 many c.in_ok-trace.ensures.ended))
