use Rattle.script_machine.proofs.Exclusive.{exclusive, one_script}
use Rattle.script_machine.proofs.laws.exclusive_law.Goals as goal

pub returns : goal.returns
returns c = λ text script s. ((λ other o. one_script text script other s o), λ fault f. exclusive text script fault s f)
