use Rattle.answers.proofs.Replaying.{AreReplayed}
use Rattle.answers.proofs.replays.replay_text.Given as goal

-- the replays so far
abbrev pub invariant-loop-number : goal.invariant-loop-number
invariant-loop-number l = AreReplayed l.script l.recording.trace l.findings l.number l.lines
