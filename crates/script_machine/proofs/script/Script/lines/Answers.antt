use Rattle.std.proofs.Common.{◌≡◌, ◌<◌, get_or, length, ap, ◌∙◌, subst, sym, arith}
use Rattle.std.proofs.lemmas.List.{length-map}
use Rattle.script_machine.specs.Machine.{body}
use Rattle.script_machine.specs.Kept.{script_of}
use Rattle.script_machine.proofs.InRange.{body_of, Operands}
use Rattle.script_machine.proofs.script.Script.lines.Goals as goal

pub returns-clause-value : goal.returns-clause-value
returns-clause-value c =
    let count : length (script_of c.self.inside).bodies ≡ length c.args.self.now.bodies = ap (λ s. length s.bodies) c.self.view_is in
    let inside : c.args.thread < length c.self.inside.bodies.items = omega (arith, count, length-map c.self.inside.bodies.items (λ b. b.items)) in
    c.as_slice.ensures.value ∙ (sym (body_of (λ b. b.items) c.self.inside.bodies.items c.args.thread c.index.result.now inside (c.index.ensures ∙ ap (λ t. get_or c.self.inside.bodies.items t c.index.result.now) c.value.ensures.value)) ∙ ap (λ s. body s c.args.thread) c.self.view_is)

pub returns-clause-operands : goal.returns-clause-operands
returns-clause-operands c =
    let count : length (script_of c.self.inside).bodies ≡ length c.args.self.now.bodies = ap (λ s. length s.bodies) c.self.view_is in
    subst (λ xs. Operands c.args.self.now xs) (sym (returns-clause-value c))
    (subst (λ s. Operands s (body s c.args.thread)) c.self.view_is (c.self.invariant.script.formed c.args.thread (omega (arith, count))))
