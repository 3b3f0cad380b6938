use Rattle.std.proofs.Common.{◌∙◌, ap, ap₂}
use Rattle.std.proofs.lemmas.Result.{IfOk-weaker}
use Rattle.clap.specs.Simple.{app_of_fields, with_rule}
use Rattle.command_words.specs.Words.{events_rule, seed_rule, size_rule, workers_rule}
use Rattle.command_words.proofs.command.command.Goals as goal

pub returns : goal.returns
returns c =
    let start = ap app_of_fields c.about.ensures ∙ c.new.ensures.app in
    let with_mode = c.in_ok-command.ensures.shape c.mode_argument.ensures.local ∙ ap₂ with_rule start c.mode_argument.ensures.rule in
    let searching = c.in_ok-command-2.ensures ∙ ap (λ a. with_rule (with_rule a size_rule) workers_rule) with_mode in
    let drawing = c.in_ok-command-3.ensures ∙ ap (λ a. with_rule (with_rule a seed_rule) events_rule) searching in
    IfOk-weaker c.arg-2.result _ _ (λ made added. added.shape c.number_option-finding.ensures.local ∙ ap₂ with_rule drawing c.number_option-finding.ensures.rule) c.arg-2.ensures
