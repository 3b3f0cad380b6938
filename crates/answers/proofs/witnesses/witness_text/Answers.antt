use Rattle.std.proofs.Common.{◌-◌, ap, ◌∙◌}
use Rattle.std.proofs.lemmas.Result.{IfOk-weaker}
use Rattle.std_text.specs.Writing.{trace_text}
use Rattle.replayer.specs.Replays.{along}
use Rattle.answers.proofs.Witnessing.{keep_size, kept_within, writes}
use Rattle.answers.proofs.witnesses.witness_text.Goals as goal

pub reorder-requires : goal.reorder-requires
reorder-requires c = keep_size c.args.trace.now c.args.findings.now (c.args.number - 1) c.get.result.now c.keep_of-keep.result.now c.requires.predicted c.get.ensures c.keep_of-keep.ensures

pub event_lines-requires-clause-within : goal.event_lines-requires-clause-within
event_lines-requires-clause-within c = rw c.deref.ensures.value (kept_within c.args.trace.now.events _ c.in_ok-places.places.items c.in_ok-places.ensures.kept)

pub returns : goal.returns
returns c =
    let names = c.args.names.now in
    let trace = c.args.trace.now in
    let places = c.in_ok-places.places.items in
    IfOk-weaker c.event_lines.result _ _ (λ text written.
    writes names trace c.args.findings.now c.args.number c.get.result.now c.keep_of-keep.result.now places text.items c.requires.predicted c.requires.least c.get.ensures c.keep_of-keep.ensures
    c.in_ok-places.ensures.kept c.in_ok-places.ensures.least (written ∙ ap (λ ps. trace_text names (along trace.events ps)) c.deref.ensures.value)) c.event_lines.ensures
