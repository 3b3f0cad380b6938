use Rattle.std.proofs.Common.{[], arith}
use Rattle.std.proofs.KnownBytes.{Appends-nil, Consumes-nil}
use Rattle.syncp.proofs.Ran.{words_not_read}
use Rattle.syncp.proofs.run.run.Goals as goal

pub returns-in-Err-OutOfMemory-clause-outcome : goal.returns-in-Err-OutOfMemory-clause-outcome
returns-in-Err-OutOfMemory-clause-outcome g c =
    let told = c.refuse.ensures.told in
    ([], Consumes-nil _, (omega arith, ([], Appends-nil _, (told.0, told.1, words_not_read _ _ _ c.refuse.result told.0 told.2))))
