use Rattle.std.proofs.Common.{◌≡◌, ℕ, zero, suc, ◌++◌, ◌∙◌, List, [], refl, sym, ap}
use Rattle.std.proofs.lemmas.Bool.{eqb-true}
use Rattle.std.proofs.lemmas.List.{nil_from_length}
use Rattle.script_machine.specs.Line.{Line}
use Rattle.script_machine.specs.ScriptText.{times}
use Rattle.script_machine.proofs.Bodies.{times_push}
use Rattle.script_machine.proofs.flatten.copies.Goals as goal

-- nothing that many times is nothing
times_nothing : (n : ℕ) (xs : List Line) → xs ≡ [] → [] ≡ times n xs
times_nothing zero xs none = refl
times_nothing (suc n) xs none = times_nothing n xs none ∙ ap (λ ys. ys ++ times n xs) (sym none)

pub returns-then-is_empty : goal.returns-then-is_empty
returns-then-is_empty c = c.new-all.ensures.items ∙ times_nothing c.args.n c.args.lines.now (nil_from_length c.args.lines.now (eqb-true _ _ (sym c.if-is_empty.ensures)))

pub loop-preserved : goal.loop-preserved
loop-preserved c = c.in_ok-extend_from_slice.ensures.items ∙ (ap (λ xs. xs ++ c.args.lines.now) c.loop.invariant ∙ times_push c.loop.counter c.args.lines.now)
