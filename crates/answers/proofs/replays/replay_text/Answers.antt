use Rattle.std.proofs.Common.{◌≡◌, ◌+◌, ◌++◌, refl, ap, ◌∙◌, arith}
use Rattle.report.specs.ReachedLines.{closing_reached}
use Rattle.answers.proofs.Replaying.{finding_of, none_replayed, one_replayed, all_replayed}
use Rattle.answers.proofs.replays.replay_text.Goals as goal

pub add_replay-requires-clause-finding : goal.add_replay-requires-clause-finding
add_replay-requires-clause-finding c = finding_of c.args.recording.now.trace c.args.findings.now c.loop-number.number c.get-finding.result.now c.requires.predicted c.get-finding.ensures

pub loop-number-preserved : goal.loop-number-preserved
loop-number-preserved c =
    one_replayed c.args.script.now c.args.recording.now.trace c.args.findings.now c.loop-number.number (c.loop-number.number + 1) c.get-finding.result.now c.loop-number.lines c.add_replay.new.lines c.get-finding.ensures refl
    c.loop-number.invariant c.in_ok-add_replay.ensures

pub returns-in-Ok : goal.returns-in-Ok
returns-in-Ok c =
    let wrote = c.in-Ok.ensures.text in
    let same : c.len.result ≡ c.loop-number.number = omega (arith, c.loop-number-test.false, c.loop-number.auto.number-end, c.len.ensures, c.len-number-end.ensures) in
    all_replayed c.args.script.now c.args.recording.now.trace c.args.findings.now c.loop-number.number c.loop-number.lines c.write_reached_count.new.sink (omega (arith, same, c.len.ensures))
    c.loop-number.invariant (wrote.1 ∙ ap (λ l. c.loop-number.lines ++ l) (wrote.2 ∙ ap closing_reached same))

pub loop-number-init : goal.loop-number-init
loop-number-init c = rw c.new-lines.ensures (none_replayed c.args.script.now c.args.recording.now.trace c.args.findings.now)
