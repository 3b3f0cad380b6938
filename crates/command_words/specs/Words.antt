-- The words of the command line, and what they mean.
use Rattle.std.specs.Prelude.{◌≡◌, ◌≤◌, ℕ, List, [], ◌∷◌, true, Option, Some, None, if◌then◌else◌, codes, option_map, option_and_then, Result, Ok, Err}
use Rattle.std.specs.Option.{option_map_or}
use Rattle.std.specs.Str.Parse.{digits_value, without_leading_plus}
use Rattle.clap.specs.Walk.{is_empty}
use Rattle.clap.specs.Words.{App, Row, Rule, Text, fault_of, first_of, matches_of, new_app, new_rule, with_rule}
use Rattle.clap.specs.declared.builder.value_parser.ValueParser.TheVariants.{Unsigned}
use Rattle.clap.specs.declared.builder.action.ArgAction.TheVariants.{Set}
use Rattle.sp_base.specs.declared.limits.TheConstants.{MAX_SIZE, MAX_WORKERS, MIN_SIZE}
use Rattle.command_words.specs.declared.mode.Mode.{Mode}
use Rattle.command_words.specs.ModeNames.{mode_named}
use Rattle.command_words.specs.declared.command.TheConstants.{MAX_DRAWN_EVENTS, MAX_FINDING, MAX_SEED, MIN_DRAWN_EVENTS}
use Rattle.command_words.specs.declared.words.Words.{Words}
use Rattle.command_words.specs.declared.words.WordsFault.{WordsFault}
use Rattle.command_words.specs.declared.words.WordsFault.TheVariants.{Usage, OutOfMemory}

-- MODE, which is required and stands in first position
abbrev pub mode_rule : Rule
mode_rule = record (new_rule (codes "mode")) { required = true; action = Some Set }

-- an option that takes a number from the least to the most, or has the default
abbrev pub number_rule : Text → ℕ → ℕ → Text → Rule
number_rule name least most default = record (new_rule name) { long = Some name; action = Some Set; parser = Some (Unsigned least most); defaults = default ∷ [] }

-- the greatest size of a deadlock pattern
abbrev pub size_rule : Rule
size_rule = number_rule (codes "size") MIN_SIZE MAX_SIZE (codes "3")

-- the workers of a search
abbrev pub workers_rule : Rule
workers_rule = number_rule (codes "workers") 1 MAX_WORKERS (codes "4")

-- the seed of a drawn trace
abbrev pub seed_rule : Rule
seed_rule = number_rule (codes "seed") 0 MAX_SEED (codes "1")

-- the events of a drawn trace
abbrev pub events_rule : Rule
events_rule = number_rule (codes "events") MIN_DRAWN_EVENTS MAX_DRAWN_EVENTS (codes "4000")

-- the number of a finding
abbrev pub finding_rule : Rule
finding_rule = number_rule (codes "finding") 1 MAX_FINDING (codes "1")

-- the command of the program
abbrev pub the_command : App
the_command = with_rule (with_rule (with_rule (with_rule (with_rule (with_rule (new_app (codes "syncp")) mode_rule) size_rule) workers_rule) seed_rule) events_rule) finding_rule

-- the number that a decimal text writes
abbrev pub written_number : Text → ℕ
written_number text = digits_value 10 (without_leading_plus text)

-- the number of an option, from its first value
abbrev pub option_value : Text → List Row → ℕ
option_value name matches = option_map_or written_number (first_of name matches) 0

-- what the matches of the command mean in a mode
abbrev pub reading_in : List Row → Mode → Words
reading_in matches mode = record {
  mode = mode;
  size = option_value (codes "size") matches;
  workers = option_value (codes "workers") matches;
  seed = option_value (codes "seed") matches;
  events = option_value (codes "events") matches;
  finding = option_value (codes "finding") matches;
}

-- what the matches of the command mean, where MODE names a mode
abbrev pub reading_by : List Row → Option Words
reading_by matches = option_map (reading_in matches) (option_and_then mode_named (first_of (codes "mode") matches))

-- what the words mean: the command takes them, and MODE names a mode
unfoldable pub reading_of : List Text → Option Words
reading_of words = if is_empty (fault_of the_command words) then reading_by (matches_of the_command words) else None

-- the numbers of a reading are in their ranges
pub record KeepsRanges (reading : Words) : Type 0 where
  pub least_size : MIN_SIZE ≤ reading.size
  pub greatest_size : reading.size ≤ MAX_SIZE
  pub least_workers : 1 ≤ reading.workers
  pub greatest_workers : reading.workers ≤ MAX_WORKERS
  pub greatest_seed : reading.seed ≤ MAX_SEED
  pub least_events : MIN_DRAWN_EVENTS ≤ reading.events
  pub greatest_events : reading.events ≤ MAX_DRAWN_EVENTS
  pub least_finding : 1 ≤ reading.finding
  pub greatest_finding : reading.finding ≤ MAX_FINDING

-- the answer is the reading, and a refusal says that there is none; want of memory says nothing
abbrev pub AnswersReading : Option Words → Result Words WordsFault → Type 0
AnswersReading meaning (Ok reading) = meaning ≡ Some reading
AnswersReading meaning (Err (Usage text)) = meaning ≡ None
AnswersReading meaning (Err OutOfMemory) = Unit {0}
