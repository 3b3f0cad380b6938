use Rattle.std.proofs.Common.{◌≡◌, ◌++◌, ℕ, sym, ap, subst, ◌∙◌, arith}
use Rattle.trace_laws.specs.Event.{Event}
use Rattle.std_text.specs.Writing.{IsNamed, event_line}
use Rattle.drawn_trace.specs.Drawn.{turn, drawn_names}
use Rattle.drawn_trace.proofs.Readable.{Drew, drew_none, drew_place, drew_named, drew_more, drew_all, drawn_lawful, drawn_readable, drawn_short}
use Rattle.drawn_trace.proofs.text.draw.Goals as goal

pub loop-init : goal.loop-init
loop-init c = rw (c.new-drawing.ensures, c.new-text.ensures.items) (drew_none c.args.seed c.args.events)

pub turn-event-requires : goal.turn-event-requires
turn-event-requires c =
    let place : c.loop.drawing.place ≡ c.loop.counter = drew_place c.args.seed c.args.events c.loop.counter c.loop.drawing c.loop.text.items c.loop-test.true c.loop.invariant in
    omega arith

pub line_of-requires : goal.line_of-requires
line_of-requires c = subst (λ (e : Event). IsNamed drawn_names e) (sym c.turn-event.ensures.event)
    (drew_named c.args.seed c.args.events c.loop.counter c.loop.drawing c.loop.text.items c.loop-test.true c.loop.invariant)

pub loop-preserved : goal.loop-preserved
loop-preserved c =
    let line : c.as_bytes.result.now ≡ event_line drawn_names (turn c.loop.drawing).0 =
    c.as_bytes.ensures.value ∙ c.in_ok-line.ensures ∙ ap (event_line drawn_names) c.turn-event.ensures.event in
    let text : c.extend_from_slice.new.self.items ≡ c.loop.text.items ++ event_line drawn_names (turn c.loop.drawing).0 =
    c.in_ok-extend_from_slice.ensures.items ∙ ap (λ xs. c.loop.text.items ++ xs) line in
    rw (c.turn-event.ensures.state, text) (drew_more c.args.seed c.args.events c.loop.counter c.loop.drawing c.loop.text.items c.loop-test.true c.loop.invariant)

pub returns-in_err-line-clause-lawful : goal.returns-in_err-line-clause-lawful
returns-in_err-line-clause-lawful c = drawn_lawful c.args.seed c.args.events c.requires

pub returns-in_err-line-clause-readable : goal.returns-in_err-line-clause-readable
returns-in_err-line-clause-readable c = drawn_readable c.args.seed c.args.events c.requires

pub returns-in_err-extend_from_slice-clause-lawful : goal.returns-in_err-extend_from_slice-clause-lawful
returns-in_err-extend_from_slice-clause-lawful c = drawn_lawful c.args.seed c.args.events c.requires

pub returns-in_err-extend_from_slice-clause-readable : goal.returns-in_err-extend_from_slice-clause-readable
returns-in_err-extend_from_slice-clause-readable c = drawn_readable c.args.seed c.args.events c.requires

pub returns-clause-text : goal.returns-clause-text
returns-clause-text c =
    let all : c.loop.counter ≡ c.args.events = omega arith in
    drew_all c.args.seed c.args.events c.loop.drawing c.loop.text.items (subst (λ (i : ℕ). Drew c.args.seed c.args.events i c.loop.drawing c.loop.text.items) all c.loop.invariant)

pub returns-clause-lawful : goal.returns-clause-lawful
returns-clause-lawful c = drawn_lawful c.args.seed c.args.events c.requires

pub returns-clause-readable : goal.returns-clause-readable
returns-clause-readable c = drawn_readable c.args.seed c.args.events c.requires

pub returns-in_err-line-clause-short : goal.returns-in_err-line-clause-short
returns-in_err-line-clause-short c = drawn_short c.args.seed c.args.events c.requires

pub returns-in_err-extend_from_slice-clause-short : goal.returns-in_err-extend_from_slice-clause-short
returns-in_err-extend_from_slice-clause-short c = drawn_short c.args.seed c.args.events c.requires

pub returns-clause-short : goal.returns-clause-short
returns-clause-short c = drawn_short c.args.seed c.args.events c.requires
