use Rattle.std.proofs.Common.{◌≡◌, ◌+◌, drop, not}
use Rattle.std.specs.Prelude.{◌==◌}
use Rattle.std.specs.List.{prefix_len}
use Rattle.std_text.specs.Fields.{newline}
use Rattle.intake.proofs.parts.line_len.Given as goal

abbrev pub invariant-loop-i : goal.invariant-loop-i
invariant-loop-i l = prefix_len (λ b. not (b == newline)) l.text ≡ l.i + prefix_len (λ b. not (b == newline)) (drop l.i l.text)
