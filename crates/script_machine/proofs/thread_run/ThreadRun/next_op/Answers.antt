use Rattle.std.proofs.Common.{◌≡◌, Option, Some, None, is_some, false, drop, length, refl, sym, ap, ◌∙◌, arith, length-drop}
use Rattle.script_machine.specs.Line.{Line}
use Rattle.script_machine.specs.Machine.{op_of}
use Rattle.script_machine.proofs.Settled.{call_there}
use Rattle.script_machine.proofs.thread_run.ThreadRun.next_op.Goals as goal

none_from : {X : Type 0} (o : Option X) → is_some o ≡ false → o ≡ None
none_from None h = refl
none_from (Some x) h = absurd (cc)

pub returns-clause-end : goal.returns-clause-end
returns-clause-end c = (
  λ none. absurd (call_there c.self.inside.lines.now c.self.inside.cursor c.index-self-self.result c.self.inside.register c.if-self.false c.self.invariant
      (ap (λ (l : Line). op_of l.instruction) (sym c.line.view_is) ∙ sym c.op_of.ensures ∙ none_from _ none)),
  λ end. absurd (
      let e : length (drop c.self.inside.cursor c.self.inside.lines.now) ≡ 0 = ap (λ v. length v.left) c.self.view_is ∙ ap length end in
      omega (arith, length-drop c.self.inside.cursor c.self.inside.lines.now)),
)
