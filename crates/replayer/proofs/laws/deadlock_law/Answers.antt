use Rattle.replayer.proofs.Stuck.{deadlock_law}
use Rattle.replayer.proofs.laws.deadlock_law.Goals as goal

pub returns : goal.returns
returns c = deadlock_law
