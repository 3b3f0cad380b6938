use Rattle.std.proofs.Common.{below_more, subst, sym, arith}
use Rattle.script_machine.specs.Machine.{CanStep}
use Rattle.script_machine.specs.Held.{meaning}
use Rattle.script_machine.proofs.machine.Machine.first_ready.Goals as goal

pub loop-number-preserved : goal.loop-number-preserved
loop-number-preserved c = below_more _ _ c.loop-number.invariant (λ can. (
    let own = subst (CanStep c.args.self.now.script (meaning c.args.self.now)) (sym c.thread_id-thread.ensures) can in
    let no' = c.if-can_step.ensures.1 own in
    cc))

pub returns-then-can_step-clause-lowest : goal.returns-then-can_step-clause-lowest
returns-then-can_step-clause-lowest c = λ u less. c.loop-number.invariant u (omega (arith, less, c.thread_id-thread.ensures))

pub returns-clause-none : goal.returns-clause-none
returns-clause-none c = λ t less. c.loop-number.invariant t (omega (arith, c.loop-number-test.false, c.threads-number-end.ensures.value))
