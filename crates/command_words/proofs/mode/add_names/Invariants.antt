use Rattle.std.proofs.Common.{◌≡◌, ◌++◌, drop, string_bytes}
use Rattle.command_words.proofs.ModeLists.{names_in}
use Rattle.command_words.proofs.mode.add_names.Given as goal

-- the names that are left come behind those that are in the list
abbrev pub invariant-loop-name : goal.invariant-loop-name
invariant-loop-name l = string_bytes l.list ++ names_in (drop l.name-index l.modes) ≡ string_bytes l.fn.list ++ names_in l.modes
