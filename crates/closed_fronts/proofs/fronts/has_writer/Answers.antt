use Rattle.std.proofs.Common.{◌≡◌, ℕ, Some, None, sym, subst, ◌∙◌, arith}
use Rattle.closed_fronts.specs.Cuts.{IsHeld}
use Rattle.closed_fronts.specs.Rows.{row_in}
use Rattle.closed_fronts.proofs.fronts.has_writer.Goals as goal

pub is_below-requires-clause-place : goal.is_below-requires-clause-place
is_below-requires-clause-place c = let before = ((c.writer.ensures c.in-Some.writer).0 c.in-Some.is).last.before in let within = c.requires.place in omega arith

pub returns-in-Some : goal.returns-in-Some
returns-in-Some c = λ test w writes.
    let some = (c.writer.ensures w).1 writes in
    let given = c.in-Some.is in
    let is : c.in-Some.writer ≡ w = cc in
    subst (λ (k : ℕ). IsHeld c.args.ties.now.events (row_in c.args.rows.now c.args.source) k) is (c.is_below.ensures test)

pub returns-in-None : goal.returns-in-None
returns-in-None c = λ test w writes. let some = (c.writer.ensures w).1 writes in let given = c.in-None.is in absurd (let wrong : Some w ≡ None = sym some ∙ given in cc)
