use Rattle.std.proofs.Common.{subst}
use Rattle.script_machine.specs.Recorded.{AreInRange}
use Rattle.answers.proofs.ReplayNames.{replay_named}
use Rattle.answers.proofs.replays.add_replay.Goals as goal

pub write_reached-requires : goal.write_reached-requires
write_reached-requires c =
    let h = c.args.recording.now.trace in
    let range = subst (λ s. AreInRange s h.events) c.requires.script c.trace.ensures.operands in
    replay_named c.args.script.now c.names.result.now c.names.ensures.threads c.names.ensures.locks c.names.ensures.variables h c.args.finding.now c.in_ok-reached.reached c.in_ok-reached.ensures range
