-- What the fields of a script stand for.
use Rattle.std.specs.Prelude.{◌≡◌, ℕ, ◌<◌, length, map, slice_get, Some}
use Rattle.script_machine.specs.Machine.{Script, is_forked, size_of}
use Rattle.script_machine.specs.ScriptBounds.{IsScript}
use Rattle.script_machine.specs.declared.script.Script.TheInside.{Inside as ScriptFields}

-- the script that the fields hold
abbrev pub script_of : ScriptFields → Script
script_of s = record { bodies = map (λ b. b.items) s.bodies.items; locks = length s.names.locks; variables = length s.names.vars; names = s.names }

-- it is a script, each thread has its name, the size is that of the bodies, and the threads that some body forks are marked
pub record IsKeptScript (s : ScriptFields) : Type 0 where
  pub script : IsScript (script_of s)
  pub named : length s.names.threads ≡ length s.bodies.items
  pub size : s.size ≡ size_of (script_of s)
  pub marks : length s.forked.items ≡ length s.bodies.items
  pub forked : (t : ℕ) → t < length s.bodies.items → slice_get s.forked.items t ≡ Some (is_forked (script_of s) t)
