use Rattle.std.proofs.Common.{rules, length, ◌==◌, ◌≡◌, true, false}
use Rattle.std_text.proofs.TextPieces.{last_line, no_last_line}
use Rattle.std_text.proofs.framing.TextReader.last_line.Goals as goal

pub returns-then-is_empty : goal.returns-then-is_empty
returns-then-is_empty c =
    let none : (length c.self.inside.rest.items == 0) ≡ true = search rules in
    rw (← c.self.view_is) (no_last_line _ none)

pub returns : goal.returns
returns c =
    let some : (length c.self.inside.rest.items == 0) ≡ false = search rules in
    rw (← c.self.view_is, c.clear.ensures.items) (last_line _ _ c.take_line-answer.new.lines c.take_line-answer.result some (rw (← c.deref.ensures.value) c.take_line-answer.ensures.read))
