use Rattle.std.proofs.Common.{Some, sym, ap, ◌∙◌}
use Rattle.script_machine.proofs.ResolvedLemmas.{within_there, past_there, line_there, read_there}
use Rattle.script_machine.proofs.ThreadsRead.{sized_next, sized_over, sized_all}
use Rattle.script_machine.proofs.whole.size_fault.Goals as goal

pub loop-cursor-preserved : goal.loop-cursor-preserved
loop-cursor-preserved c = record {
  sized = λ names S is.
      sized_next names S c.loop-cursor.size c.loop-cursor.cursor c.in_ok-flat.flat (within_there names S c.args.steps.now is c.loop-cursor.cursor c.loop-cursor-test.true) (c.loop-cursor.invariant.sized names S is)
      (c.in_ok-flat.ensures.body names S is) c.if-size.false;
  few = c.if-size.false;
  within = c.in_ok-flat.ensures.inside;
}

pub returns-then-size : goal.returns-then-size
returns-then-size c = λ names S is.
    (let (says, here) = line_there names S c.args.steps.now is c.loop-cursor.cursor (record { line = c.thread.inside.line; says = c.thread.inside.says })
    (read_there c.args.steps.now c.loop-cursor.cursor _ c.loop-cursor-test.true ∙ ap Some (sym c.index-steps-cursor.is ∙ sym c.thread.view_is)) in
    sized_over names S c.loop-cursor.size c.loop-cursor.cursor _ c.in_ok-flat.flat (within_there names S c.args.steps.now is c.loop-cursor.cursor c.loop-cursor-test.true) (c.loop-cursor.invariant.sized names S is)
    (c.in_ok-flat.ensures.body names S is) c.if-size.true says here)

pub returns : goal.returns
returns c = λ names S is. sized_all names S c.loop-cursor.size c.loop-cursor.cursor (past_there names S c.args.steps.now is c.loop-cursor.cursor c.loop-cursor-test.false) (c.loop-cursor.invariant.sized names S is)
