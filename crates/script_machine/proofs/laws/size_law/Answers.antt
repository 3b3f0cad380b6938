use Rattle.script_machine.proofs.Rows.{two_turns_branch}
use Rattle.script_machine.proofs.Runs.{legal_size}
use Rattle.script_machine.proofs.laws.size_law.Goals as goal

-- the worked rows are read with it
pub returns : goal.returns
returns c = let row = two_turns_branch in legal_size
