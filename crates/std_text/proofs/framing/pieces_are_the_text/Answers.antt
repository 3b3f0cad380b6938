use Rattle.std_text.proofs.TextPieces.{after_append}
use Rattle.std_text.proofs.framing.pieces_are_the_text.Goals as goal

pub returns : goal.returns
returns c = after_append
