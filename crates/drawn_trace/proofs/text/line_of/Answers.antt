use Rattle.std.proofs.Common.{◌≡◌, sym, subst, ◌∙◌}
use Rattle.trace_laws.specs.Event.{Event}
use Rattle.std_text.specs.Writing.{op_text, IsNamed}
use Rattle.drawn_trace.specs.Drawn.{drawn_names}
use Rattle.drawn_trace.proofs.Lines.{line_is, op_is}
use Rattle.drawn_trace.proofs.text.line_of.Goals as goal

pub returns : goal.returns
returns c =
    let e : Event = record { thread = c.event.inside.thread; op = c.event.inside.op; loc = c.event.inside.loc } in
    let named : IsNamed drawn_names e = subst (IsNamed drawn_names) (sym c.event.view_is) c.requires in
    let spelled : c.as_str.result.now ≡ op_text drawn_names e.op = c.as_str.ensures.value ∙ c.in_ok-operation.ensures ∙ rw (c.op_word.ensures, c.letter.ensures, c.number.ensures) (op_is e.op named.operand) in
    rw (← c.event.view_is) (c.in_ok-line.ensures ∙ rw c.value.ensures.value (line_is e c.as_str.result.now named spelled))
