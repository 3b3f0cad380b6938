use Rattle.std.proofs.Common.{◌≡◌, ℕ, ◌<◌, List, cond, length, reverse, Some, None, ap, ◌∙◌, subst, arith}
use Rattle.script_machine.specs.ScriptText.{is_among, number_in}
use Rattle.script_machine.proofs.KnownNames.{low_is_known, known_answer, with_known}
use Rattle.script_machine.proofs.tables.Tables.thread.Goals as goal

pub returns-clause-value : goal.returns-clause-value
returns-clause-value c =
    let names : List (List ℕ) = c.self.inside.names.threads in
    let low : c.in-Ok.id < length names = omega arith in
    subst (λ t. Some c.in-Ok.id ≡ cond (is_among c.args.name.now t.threads) (Some (number_in t.threads c.args.name.now)) None) c.self.view_is (known_answer names c.args.name.now c.in-Ok.id c.in-Ok.ensures.number low)

pub returns-clause-same : goal.returns-clause-same
returns-clause-same c =
    let names : List (List ℕ) = c.self.inside.names.threads in
    let low : number_in names c.args.name.now < length names = omega (arith, c.in-Ok.ensures.number) in
    ap (λ n. record { threads = n.threads; locks = n.locks; variables = n.vars; blocks = reverse c.self.inside.blocks.items })
    (c.in-Ok.ensures.ok ∙ ap (λ ts. record c.self.inside.names { threads = ts }) (with_known names c.args.name.now (low_is_known names c.args.name.now low)))
    ∙ c.self.view_is
