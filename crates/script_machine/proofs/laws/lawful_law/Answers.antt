use Rattle.script_machine.proofs.Runs.{legal_lawful}
use Rattle.script_machine.proofs.laws.lawful_law.Goals as goal

pub returns : goal.returns
returns c = legal_lawful
