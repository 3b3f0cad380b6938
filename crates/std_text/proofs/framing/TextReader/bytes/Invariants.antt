use Rattle.std.proofs.Common.{◌≡◌, take, Ok}
use Rattle.std_text.specs.Framing.{after}
use Rattle.std_text.proofs.framing.TextReader.bytes.Given as goal

-- the reader has read the bytes so far
abbrev pub invariant-loop-byte : goal.invariant-loop-byte
invariant-loop-byte l = after l.fn.self (take l.byte-index l.piece) ≡ Ok l.self
