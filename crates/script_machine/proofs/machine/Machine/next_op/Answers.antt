use Rattle.std.proofs.Common.{◌≡◌, ◌<◌, length, IfSome, get_or, sym, ap, ◌∙◌, subst, arith}
use Rattle.std.proofs.lemmas.List.{get_or_read}
use Rattle.script_machine.specs.Machine.{OpInRange, call_at}
use Rattle.script_machine.specs.Held.{at_end}
use Rattle.script_machine.specs.HeldBy.{held}
use Rattle.script_machine.proofs.InRange.{call_in_range, Operands}
use Rattle.script_machine.proofs.machine.Machine.next_op.Goals as goal

pub returns-clause-operands : goal.returns-clause-operands
returns-clause-operands c =
    let count : length (held c.self.inside).script.bodies ≡ length c.args.self.now.script.bodies = ap (λ s. length s.script.bodies) c.self.view_is in
    let inside : c.args.thread < length c.self.inside.runs.items = omega (arith, count, c.self.invariant.threads) in
    let there : c.index-run.result.now ≡ get_or c.self.inside.runs.items c.args.thread at_end = get_or_read c.self.inside.runs.items c.args.thread _ inside (c.index-run.ensures ∙ ap (λ t. get_or c.self.inside.runs.items t c.index-run.result.now) c.value.ensures.value) at_end in
    let operands : Operands (held c.self.inside).script (get_or c.self.inside.runs.items c.args.thread at_end).left = c.self.invariant.operands c.args.thread (omega (arith, count)) in
    let here = call_in_range (held c.self.inside).script c.index-run.result.now.left (subst (λ r. Operands (held c.self.inside).script r.left) (sym there) operands) in
    subst (λ call. IfSome call (λ op. OpInRange c.args.self.now.script op)) (sym c.next_op.ensures.call)
    (subst (λ s. IfSome (call_at c.index-run.result.now.left) (λ op. OpInRange s.script op)) c.self.view_is here)
