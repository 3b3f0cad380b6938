use Rattle.script_machine.proofs.OfTrace.{never_odd, one_run}
use Rattle.script_machine.proofs.laws.of_law.Goals as goal

pub returns : goal.returns
returns c = λ script trace run end legal same. (
  never_odd script trace run end legal same,
  λ other end' legal' same'. one_run script trace run other end end' legal same legal' same',
)
