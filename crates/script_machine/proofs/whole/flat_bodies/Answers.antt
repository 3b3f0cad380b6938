use Rattle.std.proofs.Common.{◌∙◌, ap, map}
use Rattle.std.proofs.lemmas.List.{map-append}
use Rattle.script_machine.proofs.ResolvedLemmas.{within_there, past_there}
use Rattle.script_machine.proofs.ThreadsRead.{written_next, written_all}
use Rattle.script_machine.proofs.whole.flat_bodies.Goals as goal

pub loop-cursor-preserved : goal.loop-cursor-preserved
loop-cursor-preserved c = record {
  written = λ names S is.
      written_next names S (map (λ b. b.items) c.loop-cursor.bodies.items) _ c.loop-cursor.cursor c.in_ok-flat.flat (within_there names S c.args.steps.now is c.loop-cursor.cursor c.loop-cursor-test.true)
      (c.loop-cursor.invariant.written names S is) (c.in_ok-flat.ensures.body names S is) (ap (map (λ b. b.items)) c.in_ok-push.ensures.items ∙ map-append (λ b. b.items) c.loop-cursor.bodies.items _);
  within = c.in_ok-flat.ensures.inside;
}

pub returns : goal.returns
returns c = λ names S is. written_all names S _ c.loop-cursor.cursor (past_there names S c.args.steps.now is c.loop-cursor.cursor c.loop-cursor-test.false) (c.loop-cursor.invariant.written names S is)
