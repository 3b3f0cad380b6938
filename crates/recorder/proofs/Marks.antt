-- Lists of threads.
use Rattle.std.proofs.Common.{ℕ, zero, suc, false, refl}
use Rattle.std.proofs.Math.ListN.{replicate}
use Rattle.recorder.specs.Boards.{HasNone}

-- a list in which each item is false has no thread
pub replicate_has_none : (n : ℕ) → HasNone (replicate n false)
replicate_has_none zero t = refl
replicate_has_none (suc n) zero = refl
replicate_has_none (suc n) (suc t) = replicate_has_none n t
