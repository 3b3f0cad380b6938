-- What the statements of the code say.
use Rattle.std.specs.Prelude.{Option, Some, None}
use Rattle.script_machine.specs.ScriptText.{Statement, Action, Thread, Act, If, Repeat, Else, End, Lock, Unlock, Read, Write, Fork, Join, WriteNumber, Add}
use Rattle.script_machine.specs.declared.text.Statement.{Statement as Spoken}
use Rattle.script_machine.specs.declared.text.Statement.TheVariants as spoken

-- what a statement of the code says
abbrev pub said : Spoken → Statement
said (spoken.Thread name) = Thread name.now
said (spoken.Lock name) = Act (Lock name.now)
said (spoken.Unlock name) = Act (Unlock name.now)
said (spoken.Read name) = Act (Read name.now)
said (spoken.Write name) = Act (Write name.now)
said (spoken.WriteNumber name n) = Act (WriteNumber name.now n)
said (spoken.Add n) = Act (Add n)
said (spoken.Fork name) = Act (Fork name.now)
said (spoken.Join name) = Act (Join name.now)
said (spoken.If n) = If n
said spoken.Else = Else
said (spoken.Repeat n) = Repeat n
said spoken.End = End

-- the action of a statement that is one
abbrev pub action_in : Statement → Option Action
action_in (Act action) = Some action
action_in statement = None
