use Rattle.std.proofs.Common.{◌+◌, ◌*◌, ◌<◌, ◌≤◌, IfSome, length, [], ◌∷◌, ◌++◌, ◌∙◌, ap, subst, sym, Some, arith}
use Rattle.script_machine.specs.BodyAt.{IsPieceOf, capped}
use Rattle.script_machine.specs.ScriptText.{line_of, times}
use Rattle.script_machine.proofs.Flats.{past_piece, ender_piece, act_piece, choice_piece, if_piece, either_piece, else_piece, repeat_piece, loop_piece, copies_made, keep_on, part_more, part_whole}
use Rattle.script_machine.proofs.ResolvedLemmas.{if_there, repeat_there, act_there, ender_there, end_there, no_end_there, else_there, no_else_there, past_there, read_there, EndsBody, ender_says}
use Rattle.script_machine.proofs.flatten.+flatten.Goals as goal

pub choice-returns-then-is_end-clause-piece : goal.choice-returns-then-is_end-clause-piece
choice-returns-then-is_end-clause-piece t c = λ names S is.
    (let closed = end_there names S c.args.steps.now is c.in_ok-inside.inside.next (sym c.if-is_end.ensures.value) in
    choice_piece names S c.args.at c.args.write c.args.line c.args.n c.in_ok-inside.inside closed.0 _ _
    (if_there names S c.args.steps.now is c.args.at c.args.line c.args.n c.requires.opens) (c.in_ok-inside.ensures.body names S is) closed.1 c.in_ok-lines.ensures c.capped.ensures.value)

pub choice-returns-in_default-clause-piece : goal.choice-returns-in_default-clause-piece
choice-returns-in_default-clause-piece t c = λ names S is.
    if_piece names S c.args.at c.args.write c.args.line c.args.n c.in_ok-inside.inside (if_there names S c.args.steps.now is c.args.at c.args.line c.args.n c.requires.opens) (c.in_ok-inside.ensures.body names S is)
    (no_end_there names S c.args.steps.now is c.in_ok-inside.inside.next (sym c.if-is_end.ensures.value)) (no_else_there names S c.args.steps.now is c.in_ok-inside.inside.next (sym c.in_default.ensures.value))

pub choice-returns-then-not-is_end-clause-piece : goal.choice-returns-then-not-is_end-clause-piece
choice-returns-then-not-is_end-clause-piece t c = λ names S is.
    else_piece names S c.args.at c.args.write c.args.line c.args.n c.in_ok-inside.inside c.in-Some.middle c.in_ok-other.other (if_there names S c.args.steps.now is c.args.at c.args.line c.args.n c.requires.opens)
    (c.in_ok-inside.ensures.body names S is) (else_there names S c.args.steps.now is c.in_ok-inside.inside.next c.in-Some.middle (sym c.in-Some.ensures.value)) (c.in_ok-other.ensures.body names S is)
    (no_end_there names S c.args.steps.now is c.in_ok-other.other.next (sym c.if-not-is_end.ensures.value))

pub choice-returns-clause-piece : goal.choice-returns-clause-piece
choice-returns-clause-piece t c = λ names S is.
    (let closed = end_there names S c.args.steps.now is c.in_ok-other.other.next (sym c.if-not-is_end.ensures.value) in
    either_piece names S c.args.at c.args.write c.args.line c.args.n c.in_ok-inside.inside c.in-Some.middle c.in_ok-other.other closed.0 _ _
    (if_there names S c.args.steps.now is c.args.at c.args.line c.args.n c.requires.opens) (c.in_ok-inside.ensures.body names S is)
    (else_there names S c.args.steps.now is c.in_ok-inside.inside.next c.in-Some.middle (sym c.in-Some.ensures.value)) (c.in_ok-other.ensures.body names S is) closed.1 c.in_ok-lines-2.ensures c.capped-2.ensures.value)

pub repeated-returns-then-not-is_end-clause-piece : goal.repeated-returns-then-not-is_end-clause-piece
repeated-returns-then-not-is_end-clause-piece t c = λ names S is.
    loop_piece names S c.args.at c.args.write c.keeps.result c.args.line c.args.n c.in_ok-inside.inside (repeat_there names S c.args.steps.now is c.args.at c.args.line c.args.n c.requires.opens) (c.in_ok-inside.ensures.body names S is)
    (no_end_there names S c.args.steps.now is c.in_ok-inside.inside.next (sym c.if-not-is_end.ensures.value))

pub repeated-returns-clause-piece : goal.repeated-returns-clause-piece
repeated-returns-clause-piece t c = λ names S is.
    (let closed = end_there names S c.args.steps.now is c.in_ok-inside.inside.next (sym c.if-not-is_end.ensures.value) in
    repeat_piece names S c.args.at c.args.write c.keeps.result c.args.line c.args.n c.in_ok-inside.inside closed.0 _ _ (repeat_there names S c.args.steps.now is c.args.at c.args.line c.args.n c.requires.opens)
    (c.in_ok-inside.ensures.body names S is) closed.1 (c.capped-2.ensures.value ∙ ap (λ k. capped (k * c.in_ok-inside.inside.size)) c.capped.ensures.value)
    (λ body behind spelled ends on small counted. copies_made names S (c.args.at + 1) c.args.n c.keeps.result c.in_ok-inside.inside _ body behind (c.in_ok-inside.ensures.body names S is)
    (c.in_ok-lines.ensures ∙ ap (times c.args.n) c.as_slice.ensures.value) (λ k e. keep_on c.args.write c.keeps.result c.args.n k c.keeps.ensures on e) spelled ends small))

pub body-loop-lines-preserved : goal.body-loop-lines-preserved
body-loop-lines-preserved t c = record {
  body = λ names S is b behind spelled ends.
      part_more names S c.args.write b behind c.loop-lines.size c.loop-lines.cursor _ c.loop-lines.lines.items _ c.in-Some.part (c.loop-lines.invariant.body names S is b behind spelled ends)
      (subst (λ o. IsPieceOf c.args.steps.now c.loop-lines.cursor c.args.write o) c.in-Some.is c.in_ok-part.ensures.piece names S is) ends c.capped-size.ensures.value
      (c.in_ok-extend_from_slice.ensures.items ∙ ap (λ xs. c.loop-lines.lines.items ++ xs) c.as_slice.ensures.value);
  size = c.capped-size.ensures.few;
  onward =
      (let past = subst (λ o. IfSome o (λ f. c.loop-lines.cursor < f.next)) c.in-Some.is c.in_ok-part.ensures.onward in
      let from = c.loop-lines.invariant.onward in
      omega arith);
  within = subst (λ o. IfSome o (λ f. f.next ≤ length c.args.steps.now)) c.in-Some.is c.in_ok-part.ensures.inside;
}

pub body-returns-clause-body : goal.body-returns-clause-body
body-returns-clause-body t c = λ names S is b behind spelled ends.
    part_whole names S c.args.write b behind _ (c.loop-lines.invariant.body names S is b behind spelled ends)
    (subst (λ o. IsPieceOf c.args.steps.now c.loop-lines.cursor c.args.write o) c.in_default.is c.in_ok-part.ensures.piece names S is) ends c.loop-lines.invariant.size

pub piece-returns-then-at-steps-clause-piece : goal.piece-returns-then-at-steps-clause-piece
piece-returns-then-at-steps-clause-piece t c = λ names S is. past_piece names S c.args.at c.args.write (past_there names S c.args.steps.now is c.args.at c.if-at-steps.true)

pub piece-choice-requires : goal.piece-choice-requires
piece-choice-requires t c = (
  omega arith,
  (c.if-at-steps.false, read_there c.args.steps.now c.args.at _ c.if-at-steps.false ∙ ap Some (sym c.index-steps-at.is ∙ (sym c.first.view_is ∙ ap (λ s. record { line = c.first.inside.line; says = s }) c.in-If.is))),
)

pub piece-repeated-requires : goal.piece-repeated-requires
piece-repeated-requires t c = (
  omega arith,
  (c.if-at-steps.false, read_there c.args.steps.now c.args.at _ c.if-at-steps.false ∙ ap Some (sym c.index-steps-at.is ∙ (sym c.first.view_is ∙ ap (λ s. record { line = c.first.inside.line; says = s }) c.in-Repeat.is))),
)

pub piece-returns-in_ok-lines-in-Act-clause-piece : goal.piece-returns-in_ok-lines-in-Act-clause-piece
piece-returns-in_ok-lines-in-Act-clause-piece t c = λ names S is.
    (let (a, here, same) = act_there names S c.args.steps.now is c.args.at c.first.inside.line c.in-Act.instruction
    (read_there c.args.steps.now c.args.at _ c.if-at-steps.false ∙ ap Some (sym c.index-steps-at.is ∙ (sym c.first.view_is ∙ ap (λ s. record { line = c.first.inside.line; says = s }) c.in-Act.is))) in
    act_piece names S c.args.at c.args.write c.first.inside.line a _ here (λ on. c.in_ok-lines-in-Act.ensures on ∙ ap (λ k. line_of k c.first.inside.line ∷ []) same))

pub piece-returns-in-Thread-clause-piece : goal.piece-returns-in-Thread-clause-piece
piece-returns-in-Thread-clause-piece t c = λ names S is.
    (let (line, says, here, ends) = ender_there names S c.args.steps.now is c.args.at c.index-steps-at.result (read_there c.args.steps.now c.args.at _ c.if-at-steps.false ∙ ap Some (sym c.index-steps-at.is))
    (subst (λ r. EndsBody r.says) c.first.view_is (ender_says c.first.inside.says c.in-Thread.is)) in
    ender_piece names S c.args.at c.args.write line says here ends)
