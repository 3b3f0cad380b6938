-- The lines of the threads of a script after a run.
use Rattle.std.specs.Prelude.{ℕ, ◌<◌, ◌≤◌, List, [], ◌∷◌, ◌++◌, codes, length, IfSome, if◌then◌else◌}
use Rattle.std.specs.List.{flat_map, range_with_len}
use Rattle.std.specs.Option.{option_map_or}
use Rattle.trace_laws.specs.Names.{NameLists}
use Rattle.std_text.specs.Writing.{IsOperandNamed, name_at, op_text}
use Rattle.script_machine.specs.Line.{Line}
use Rattle.script_machine.specs.Machine.{Script, State, is_waiting, next_call, op_of}

-- the line of a thread that does not wait for its fork, by the instructions that are left to it: it has ended where there is none, or stands before its next call
abbrev pub standing_line : NameLists → ℕ → List Line → List ℕ
standing_line names t [] = codes "end " ++ name_at names.threads t ++ codes "\n"
standing_line names t (line ∷ rest) = codes "blocked " ++ name_at names.threads t ++ codes " at " ++ option_map_or (op_text names) (op_of line.instruction) [] ++ codes "\n"

-- the line of thread t, which may wait for its fork
abbrev pub end_line : NameLists → Script → State → ℕ → List ℕ
end_line names script s t =
    if is_waiting script s t then codes "waiting " ++ name_at names.threads t ++ codes "\n"
    else standing_line names t (s.thread t).left

-- the lines of all threads of the script, in the order of their numbers
unfoldable pub ends_text : NameLists → Script → State → List ℕ
ends_text names script s = flat_map (end_line names script s) (range_with_len 0 (length script.bodies))

-- each thread of the script has a name, and so has what its next call is on
pub record AreEndsNamed (names : NameLists) (script : Script) (s : State) : Type 0 where
  pub threads : length script.bodies ≤ length names.threads
  pub operands : (t : ℕ) → t < length script.bodies → IfSome (next_call script s t) (IsOperandNamed names)
