use Rattle.std.proofs.Common.{◌≡◌, drop}
use Rattle.command_words.proofs.ModeLists.{mode_in}
use Rattle.command_words.proofs.mode.named_among.Given as goal

-- the word is looked for among the modes that are left
abbrev pub invariant-loop-name : goal.invariant-loop-name
invariant-loop-name l = mode_in l.modes l.word ≡ mode_in (drop l.name-index l.modes) l.word
