use Rattle.std.proofs.Common.{arith}
use Rattle.command_words.proofs.Readings.{number_within}
use Rattle.command_words.proofs.words.reading_in.Goals as goal

pub overflow_cast-result : goal.overflow_cast-result
overflow_cast-result c = let size = number_within _ _ _ _ c.requires.size c.number.result c.number.ensures in omega arith

pub overflow_cast-result-2 : goal.overflow_cast-result-2
overflow_cast-result-2 c = let workers = number_within _ _ _ _ c.requires.workers c.number-2.result c.number-2.ensures in omega arith

pub overflow_cast-result-3 : goal.overflow_cast-result-3
overflow_cast-result-3 c = let events = number_within _ _ _ _ c.requires.events c.number-4.result c.number-4.ensures in omega arith

pub overflow_cast-result-4 : goal.overflow_cast-result-4
overflow_cast-result-4 c = let finding = number_within _ _ _ _ c.requires.finding c.number-5.result c.number-5.ensures in omega arith

pub returns-clause-range : goal.returns-clause-range
returns-clause-range c =
    let size = number_within _ _ _ _ c.requires.size c.number.result c.number.ensures in
    let workers = number_within _ _ _ _ c.requires.workers c.number-2.result c.number-2.ensures in
    let seed = number_within _ _ _ _ c.requires.seed c.number-3.result c.number-3.ensures in
    let events = number_within _ _ _ _ c.requires.events c.number-4.result c.number-4.ensures in
    let finding = number_within _ _ _ _ c.requires.finding c.number-5.result c.number-5.ensures in
    record {
      least_size = size.0;
      greatest_size = size.1;
      least_workers = workers.0;
      greatest_workers = workers.1;
      greatest_seed = seed.1;
      least_events = events.0;
      greatest_events = events.1;
      least_finding = finding.0;
      greatest_finding = finding.1;
    }
