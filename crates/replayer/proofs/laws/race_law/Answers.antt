use Rattle.replayer.proofs.Reaching.{race_law}
use Rattle.replayer.proofs.laws.race_law.Goals as goal

pub returns : goal.returns
returns c = race_law
