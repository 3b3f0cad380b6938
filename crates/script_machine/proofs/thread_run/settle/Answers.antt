use Rattle.std.proofs.Common.{sym, ap, ◌∙◌}
use Rattle.script_machine.specs.Machine.{jump}
use Rattle.script_machine.specs.Line.{Line}
use Rattle.script_machine.proofs.Settled.{settled_jump}
use Rattle.script_machine.proofs.thread_run.settle.Goals as goal

pub loop-cursor-preserved : goal.loop-cursor-preserved
loop-cursor-preserved c =
    settled_jump c.args.lines.now c.loop-cursor.cursor c.index-lines-cursor.result c.loop-cursor.register c.in-Some.next c.in-Some.count c.loop-cursor-test.true
    (ap (λ (l : Line). jump l.instruction c.loop-cursor.register) (sym c.index-lines-cursor.is ∙ sym c.line.view_is) ∙ sym c.jump.ensures ∙ c.in-Some.is)
    ∙ c.loop-cursor.invariant
