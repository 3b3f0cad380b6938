use Rattle.std.proofs.Common.{[], ◌∷◌, ◌∙◌}
use Rattle.std.specs.Fmt.{decimal}
use Rattle.drawn_trace.proofs.Lines.{flat}
use Rattle.drawn_trace.proofs.text.operation_text.Goals as goal

pub returns-in-Ok : goal.returns-in-Ok
returns-in-Ok c = c.in-Ok.ensures.ok ∙ flat c.args.word.now (40 ∷ []) c.args.letter.now (decimal c.args.number) (41 ∷ [])
