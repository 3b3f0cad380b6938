use Rattle.std.proofs.Common.{◌+◌, ◌-◌}
use Rattle.sp_base.specs.declared.limits.TheConstants.{MAX_INPUT}
use Rattle.intake.proofs.Taking.{Came}
use Rattle.intake.proofs.taker.take_all.Given as goal

-- what the source gave so far was taken
abbrev pub invariant-loop-taken : goal.invariant-loop-taken
invariant-loop-taken g l = Came (g.T.Taker.has l.taker) (g.S.Source.left l.fn.source) (g.S.Source.left l.source) (g.S.Source.faults l.fn.source) (g.S.Source.faults l.source) l.taken

-- how much may still be taken
abbrev pub decreases-loop-taken : goal.decreases-loop-taken
decreases-loop-taken g l = MAX_INPUT + 1 - l.taken
