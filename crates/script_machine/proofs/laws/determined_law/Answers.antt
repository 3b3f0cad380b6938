use Rattle.std.proofs.Common.{refl}
use Rattle.script_machine.specs.Machine.{start}
use Rattle.script_machine.proofs.Determined.{run_unique}
use Rattle.script_machine.proofs.laws.determined_law.Goals as goal

pub returns : goal.returns
returns c = λ script one other end end' x y h. run_unique script one other (start script) (start script) end end' refl x y h
