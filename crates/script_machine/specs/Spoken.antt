-- The statements of the code with their lines.
use Rattle.std.specs.Prelude.{Option, Some, None}
use Rattle.script_machine.specs.ScriptText.{Numbered, Tables, grown}
use Rattle.script_machine.specs.Said.{said}
use Rattle.script_machine.specs.declared.read.NumberedStatement.{NumberedStatement}

-- a statement of the code, with the number of its line
abbrev pub numbered : NumberedStatement → Numbered
numbered s = record { line = s.line; says = said s.says }

-- the tables with the statement of a line, where it has one
abbrev pub grown_by : Tables → Option Numbered → Tables
grown_by tables None = tables
grown_by tables (Some s) = grown tables s.line s.says
