use Rattle.replayer.proofs.Reaching.{replay_law}
use Rattle.replayer.proofs.laws.replay_law.Goals as goal

pub returns : goal.returns
returns c = replay_law
