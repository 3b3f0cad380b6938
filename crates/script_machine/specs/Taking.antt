-- The fault of a statement in two parts: what its place tells, and what comes of numbering its names.
use Rattle.std.specs.Prelude.{ℕ, ◌&&◌, nat_le, nat_eq, is_none, length, List, Option, Some}
use Rattle.sp_base.specs.declared.limits.TheConstants.{MAX_THREADS, MAX_LOCKS, MAX_VARS}
use Rattle.trace_laws.specs.declared.names.NameFault.{NameFault}
use Rattle.trace_laws.specs.declared.names.NameFault.TheVariants as name_fault
use Rattle.script_machine.specs.declared.fault.ScriptError.{ScriptError}
use Rattle.script_machine.specs.declared.fault.ScriptError.TheVariants as error
use Rattle.script_machine.specs.declared.fault.ScriptFault.{ScriptFault as Fault}
use Rattle.script_machine.specs.declared.fault.ScriptKind.TheVariants.{NoThread, TwiceNamed, TooManyNames}
use Rattle.script_machine.specs.ScriptText.{Statement, Tables, Thread, thread_name, lock_name, variable_name, is_among, is_new, fault_if, or_else, open_fault, place_fault, with_optional}

-- the fault of a statement among the open blocks
abbrev pub block_fault : ℕ → Tables → Statement → Option Fault
block_fault line tables (Thread name) = open_fault tables.blocks
block_fault line tables statement = place_fault line tables statement

-- the fault of a statement before its names are looked at
abbrev pub early_fault : ℕ → Tables → Statement → Option Fault
early_fault line tables statement =
    or_else (fault_if (is_none (thread_name statement) && nat_eq (length tables.threads) 0) line NoThread) (block_fault line tables statement)

-- the fault of a name that is one more than there may be
abbrev pub over_fault : ℕ → Option (List ℕ) → List (List ℕ) → ℕ → Option Fault
over_fault line name names limit = fault_if (is_new name names && nat_le limit (length names)) line TooManyNames

-- the fault of a statement's names
abbrev pub names_fault : ℕ → Tables → Statement → Option Fault
names_fault line tables (Thread name) = or_else (fault_if (is_among name tables.threads) line TwiceNamed) (over_fault line (Some name) tables.threads MAX_THREADS)
names_fault line tables statement =
    or_else (over_fault line (lock_name statement) tables.locks MAX_LOCKS) (over_fault line (variable_name statement) tables.variables MAX_VARS)

-- the tables with the names of one more statement
abbrev pub named_after : Tables → Statement → Tables
named_after tables statement = record tables {
  threads = with_optional (thread_name statement) tables.threads;
  locks = with_optional (lock_name statement) tables.locks;
  variables = with_optional (variable_name statement) tables.variables;
}

-- why a name of the line got no number
abbrev pub name_error : ℕ → NameFault → ScriptError
name_error line name_fault.Full = error.Fault (record { line = line; kind = TooManyNames })
name_error line name_fault.OutOfMemory = error.OutOfMemory
