use Rattle.std.proofs.Common.{◌≡◌, ◌<◌, refl, sym, subst}
use Rattle.std.specs.Io.KnownBytes.{IsAtEnd}
use Rattle.answers.specs.Witnesses.{WritesFinding}
use Rattle.syncp.proofs.Showing.{lacking, shown}
use Rattle.syncp.proofs.witness_mode.witness_of_source.Goals as goal

pub returns-then-len-finding-clause-read : goal.returns-then-len-finding-clause-read
returns-then-len-finding-clause-read g c =
    let read = c.in_ok-trace.ensures.read in
    let trace = c.in_ok-trace.trace in
    let names = c.in_ok-trace.names in
    let found = c.in_ok-trace.findings in
    let rest = g.S.Source.left c.read_predicted.new.source in
    let less = subst (λ n. n < c.args.finding) c.len.ensures c.if-len-finding.true in
    (read.0, read.1, (read.2.0, lacking c.args.size c.args.finding read.0 ((trace, names), found) read.2.1 (IsAtEnd rest) less c.in_ok-trace.ensures.ended))

pub returns-in-Ok-sink_with-clause-read : goal.returns-in-Ok-sink_with-clause-read
returns-in-Ok-sink_with-clause-read g c =
    let read = c.in_ok-trace.ensures.read in
    let trace = c.in_ok-trace.trace in
    let names = c.in_ok-trace.names in
    let found = c.in_ok-trace.findings in
    let same : c.in-Ok-sink_with.sink ≡ c.in-Ok.text.items = cc (c.in-Ok-sink_with.ensures) in
    let writes = subst (λ t. WritesFinding names trace found c.args.finding t) (sym same) c.in-Ok.ensures in
    (read.0, read.1, (read.2.0, (shown c.args.size c.args.finding read.0 ((trace, names), found) read.2.1 c.in-Ok-sink_with.sink writes, refl)))
