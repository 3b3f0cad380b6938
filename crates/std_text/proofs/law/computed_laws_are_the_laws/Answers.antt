use Rattle.std_text.proofs.Holders.{holders_tell}
use Rattle.std_text.proofs.LawLemmas.{computes_laws}
use Rattle.std_text.proofs.law.computed_laws_are_the_laws.Goals as goal

pub returns : goal.returns
returns c = computes_laws c.args.trace.now.events (holders_tell c.args.trace.now.events c.len.ensures.trace.lawful)
