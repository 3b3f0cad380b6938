use Rattle.std.proofs.Common.{refl, sym, ◌∙◌}
use Rattle.command_words.proofs.ModeLists.{passed, found, exhausted}
use Rattle.command_words.proofs.mode.named_among.Goals as goal

pub loop-name-init : goal.loop-name-init
loop-name-init c = refl

pub loop-name-preserved : goal.loop-name-preserved
loop-name-preserved c = c.loop-name.invariant ∙ passed c.args.modes.now c.args.word.now c.loop-name.name-index _ c.loop-name-test.true (sym c.eq.ensures ∙ c.if-eq.false)

pub returns-then-eq : goal.returns-then-eq
returns-then-eq c = sym (c.loop-name.invariant ∙ found c.args.modes.now c.args.word.now c.loop-name.name-index _ c.loop-name-test.true (sym c.eq.ensures ∙ c.if-eq.true))

pub returns : goal.returns
returns c = sym (c.loop-name.invariant ∙ exhausted c.args.modes.now c.args.word.now c.loop-name.name-index c.loop-name-test.false)
