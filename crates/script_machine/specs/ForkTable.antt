-- The two smallest lines of the forks of each thread.
use Rattle.std.specs.Prelude.{ℕ, Bool, false, nat_le, List, slice_set, slice_index_or, Option, Some, None, fold, replicate, find, option_map, if◌then◌else◌}
use Rattle.sp_base.specs.declared.limits.TheConstants.{MAX_THREADS}
use Rattle.trace_laws.specs.declared.event.Op.TheVariants as op
use Rattle.script_machine.specs.declared.instruction.Instruction.{Instruction}
use Rattle.script_machine.specs.declared.instruction.Instruction.TheVariants as instruction
use Rattle.script_machine.specs.declared.forks.ForkLines.{ForkLines}
use Rattle.script_machine.specs.declared.fault.ScriptFault.{ScriptFault as Fault}
use Rattle.script_machine.specs.declared.fault.ScriptKind.TheVariants.{ForkedTwice}
use Rattle.script_machine.specs.declared.resolved.Resolved.{Resolved}
use Rattle.script_machine.specs.declared.resolved.Resolved.TheVariants as resolved
use Rattle.script_machine.specs.Line.{Line}
use Rattle.script_machine.specs.ResolvedLine.{ResolvedLine}

-- no fork was seen
abbrev pub no_forks : ForkLines
no_forks = record { first = None; second = None }

-- there is a line, and it comes no later than the limit
abbrev pub reaches : Option ℕ → ℕ → Bool
reaches None limit = false
reaches (Some line) limit = nat_le line limit

-- the lesser of a line that may be there and one that is
abbrev pub lesser : Option ℕ → ℕ → ℕ
lesser None line = line
lesser (Some other) line = if nat_le other line then other else line

-- the two smallest lines with one more
abbrev pub noted : ForkLines → ℕ → ForkLines
noted seen line =
    if reaches seen.first line then record { first = seen.first; second = Some (lesser seen.second line) }
    else record { first = Some line; second = seen.first }

-- the entry of a thread
abbrev pub lines_for : List ForkLines → ℕ → ForkLines
lines_for table t = slice_index_or table t no_forks

-- the thread that an instruction forks
abbrev pub forked_by : Instruction → Option ℕ
forked_by (instruction.Do (op.Fork u)) = Some u
forked_by i = None

-- the table with one more fork, where there is one
abbrev pub with_fork : List ForkLines → Option ℕ → ℕ → List ForkLines
with_fork table None line = table
with_fork table (Some u) line = slice_set table u (noted (lines_for table u) line)

-- the table with the forks of these instructions
abbrev pub with_forks : List ForkLines → List Line → List ForkLines
with_forks table lines = fold (λ seen l. with_fork seen (forked_by l.instruction) l.number) table lines

-- the table of these bodies, for each thread that there may be
abbrev pub table_of : List (List Line) → List ForkLines
table_of bodies = fold with_forks (replicate MAX_THREADS no_forks) bodies

-- a fork of a thread whose second smallest line it reaches
abbrev pub is_second : List ForkLines → ℕ → Resolved → Bool
is_second table line (resolved.Act (instruction.Do (op.Fork u))) = reaches (lines_for table u).second line
is_second table line says = false

-- the first of these statements that is such a fork
abbrev pub second_fork : List ForkLines → List ResolvedLine → Option Fault
second_fork table steps = option_map (λ s. record { line = s.line; kind = ForkedTwice }) (find (λ s. is_second table s.line s.says) steps)
