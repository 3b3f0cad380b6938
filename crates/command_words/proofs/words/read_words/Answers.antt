use Rattle.std.proofs.Common.{rules, ◌∙◌, Some, map, string_bytes, ap, sym}
use Rattle.std.specs.Option.{option_map}
use Rattle.clap.specs.Words.{found_of, rows_of}
use Rattle.command_words.specs.Words.{reading_in}
use Rattle.command_words.proofs.Readings.{meaning, no_meaning}
use Rattle.command_words.proofs.words.read_words.Goals as goal

pub returns-in_default-clause-reading : goal.returns-in_default-clause-reading
returns-in_default-clause-reading c =
    meaning (map string_bytes c.args.words.now) c.in_ok-matches.matches c.in_ok-matches.ensures c.named_mode.result c.named_mode.ensures
    ∙ ap (option_map (reading_in (rows_of (found_of c.in_ok-matches.matches)))) c.in_default.is

pub returns-clause-reading : goal.returns-clause-reading
returns-clause-reading c =
    meaning (map string_bytes c.args.words.now) c.in_ok-matches.matches c.in_ok-matches.ensures c.named_mode.result c.named_mode.ensures
    ∙ ap (option_map (reading_in (rows_of (found_of c.in_ok-matches.matches)))) c.in-Some.is
    ∙ ap (λ reading. Some reading) (sym c.reading_in.ensures.reading)

pub returns-in_err-matches-clause-reading : goal.returns-in_err-matches-clause-reading
returns-in_err-matches-clause-reading c =
    let none = no_meaning (map string_bytes c.args.words.now) c.in_err-matches.field-0.0 c.in_err-matches.ensures in
    search rules
