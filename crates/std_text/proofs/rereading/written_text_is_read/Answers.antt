use Rattle.std_text.proofs.ReadAgain.{written_is_read}
use Rattle.std_text.proofs.rereading.written_text_is_read.Goals as goal

pub returns : goal.returns
returns c = written_is_read
