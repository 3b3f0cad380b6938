-- The lists that the fields of a machine hold.
use Rattle.script_machine.specs.Held.{Held, IsWhole}
use Rattle.script_machine.specs.declared.machine.Machine.TheInside.{Inside}

-- the script behind the reference, and the elements of the vectors
abbrev pub held : Inside → Held
held m = record { script = m.script.now; threads = m.runs.items; forked = m.forked.items; owners = m.owners.items; values = m.values.items }

-- the lists are whole
abbrev pub HoldsWhole : Inside → Type 0
HoldsWhole m = IsWhole (held m)
