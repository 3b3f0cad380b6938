use Rattle.script_machine.proofs.OneFault.{one_fault}
use Rattle.script_machine.proofs.laws.one_fault_law.Goals as goal

pub returns : goal.returns
returns c = one_fault
