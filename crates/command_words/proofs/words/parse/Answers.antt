use Rattle.std.proofs.Common.{◌≡◌, ◌∙◌, sym, ap, subst, map, string_bytes}
use Rattle.clap.specs.Simple.{app_of}
use Rattle.clap.specs.Words.{fault_of, is_simple, is_simple_and_free, matches_of}
use Rattle.clap.specs.Words.{HasKind}
use Rattle.command_words.specs.Words.{the_command}
use Rattle.command_words.proofs.Readings.{fault_says}
use Rattle.command_words.proofs.Options.{numbers}
use Rattle.command_words.proofs.words.parse.Goals as goal

pub returns-in-Ok : goal.returns-in-Ok
returns-in-Ok c =
    let same : app_of c.in_ok-command.command ≡ the_command = c.in_ok-command.ensures in
    let words = map string_bytes c.args.words.now in
    let empty = c.in-Ok.ensures.kinds (ap is_simple_and_free same) in
    let rows = c.in-Ok.ensures.matches (ap is_simple same) in
    record {
      taken = ap (λ a. fault_of a words) (sym same) ∙ empty;
      rows = rows.0 ∙ ap (λ a. matches_of a words) same;
      numbers = numbers _ _ c.in-Ok.ensures.parsed same;
    }

pub returns-in-Err : goal.returns-in-Err
returns-in-Err c =
    let same : app_of c.in_ok-command.command ≡ the_command = c.in_ok-command.ensures in
    let words = map string_bytes c.args.words.now in
    let kinds = subst (λ a. HasKind (fault_of a words) c.in-Err.error) same (c.in-Err.ensures.kinds (ap is_simple_and_free same)) in
    fault_says words c.in-Err.error c.fault_with_text.result kinds c.fault_with_text.ensures
