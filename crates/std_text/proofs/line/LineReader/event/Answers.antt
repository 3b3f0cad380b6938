use Rattle.std.proofs.Common.{refl}
use Rattle.std_text.proofs.HolderNames.{plain_refusal}
use Rattle.std_text.proofs.line.LineReader.event.Goals as goal

pub returns-in-Err-clause-read : goal.returns-in-Err-clause-read
returns-in-Err-clause-read c = rw (c.refusal.ensures, ← c.in-Err.ensures.says) (plain_refusal _ c.args.self.now c.args.self.now.names c.in-Err.kind c.in-Err.ensures.kind refl)
