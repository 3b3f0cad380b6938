use Rattle.std.proofs.Common.{sym, subst}
use Rattle.sp_base.specs.declared.limits.TheConstants.{MAX_THREADS}
use Rattle.recorder.specs.Boards.{HasNone}
use Rattle.recorder.proofs.Marks.{replicate_has_none}
use Rattle.recorder.proofs.board.none.Goals as goal

pub returns-clause-none : goal.returns-clause-none
returns-clause-none c =
    subst HasNone (sym (c.in_ok-marks.ensures.items_if_clones_equal (λ y e. e))) (replicate_has_none MAX_THREADS)
