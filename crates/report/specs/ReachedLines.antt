-- The lines of replays.
use Rattle.std.specs.Prelude.{ℕ, List, [], ◌++◌, codes, All, IfSome}
use Rattle.std.specs.Fmt.{decimal}
use Rattle.std.specs.List.{flat_map}
use Rattle.std.specs.Option.{option_map_or}
use Rattle.trace_laws.specs.Names.{NameLists}
use Rattle.std_text.specs.Writing.{IsCallNamed, call_text}
use Rattle.script_machine.specs.Machine.{next_call}
use Rattle.script_machine.specs.Held.{Held, meaning}
use Rattle.replayer.specs.Replayed.{Replayed}

-- the next call of a thread after a space; nothing where it has none
abbrev pub call_after_space : NameLists → Held → ℕ → List ℕ
call_after_space names machine t = option_map_or (λ op. codes " " ++ call_text names t op) (next_call machine.script (meaning machine) t) []

-- the line of a finding that was reached: its number, and the next call of each of its threads
unfoldable pub reached_line : NameLists → ℕ → Replayed → List ℕ
reached_line names number reached = codes "replay " ++ decimal number ++ flat_map (call_after_space names reached.machine) reached.threads ++ codes "\n"

-- the last line: how many findings were reached
abbrev pub closing_reached : ℕ → List ℕ
closing_reached count = codes "reached " ++ decimal count ++ codes "\n"

-- the thread, and what its next call is on, have names
abbrev pub IsNextNamed : NameLists → Held → ℕ → Type 0
IsNextNamed names machine t = IfSome (next_call machine.script (meaning machine) t) (IsCallNamed names t)

-- so it is of each of the threads
abbrev pub AreNextNamed : NameLists → Replayed → Type 0
AreNextNamed names reached = All (IsNextNamed names reached.machine) reached.threads
