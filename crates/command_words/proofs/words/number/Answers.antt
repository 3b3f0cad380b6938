use Rattle.std.proofs.Common.{◌∙◌, sym}
use Rattle.command_words.proofs.Readings.{number_is}
use Rattle.command_words.proofs.words.number.Goals as goal

pub returns : goal.returns
returns c =
    let n = c.requires.2 in
    let gives = c.in-Some.ensures.value n.text n.one in
    gives.0.1 ∙ sym (number_is _ _ _ _ n)
