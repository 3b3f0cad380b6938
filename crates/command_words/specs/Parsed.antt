-- What a parse of the command leaves.
use Rattle.std.specs.Prelude.{◌≡◌, ◌≢◌, ℕ, List, [], Some, Result, Ok, Err, codes}
use Rattle.clap.specs.Words.{IsUnsignedIn, Text, fault_of, first_value, found_of, matches_of, one_text, rows_of}
use Rattle.clap.specs.declared.parser.matches.ArgMatches.{ArgMatches}
use Rattle.clap.specs.declared.parser.matches.Found.{Found}
use Rattle.sp_base.specs.declared.limits.TheConstants.{MAX_SIZE, MAX_WORKERS, MIN_SIZE}
use Rattle.command_words.specs.Words.{the_command}
use Rattle.command_words.specs.declared.command.TheConstants.{MAX_DRAWN_EVENTS, MAX_FINDING, MAX_SEED, MIN_DRAWN_EVENTS}
use Rattle.command_words.specs.declared.words.WordsFault.{WordsFault}
use Rattle.command_words.specs.declared.words.WordsFault.TheVariants.{Usage, OutOfMemory}

-- the first value of an option, which the getters read as it stands, writes a number in a range
pub record IsNumber (found : Found) (name : Text) (least most : ℕ) : Type 0 where
  pub text : Text
  pub first : first_value found name ≡ Some text
  pub one : one_text found name ≡ Some text
  pub range : IsUnsignedIn least most text

-- the same, in some range
abbrev pub HasNumber : Found → Text → Type 0
HasNumber found name = (least most : ℕ) × IsNumber found name least most

-- each option has its number
pub record HasNumbers (found : Found) : Type 0 where
  pub size : IsNumber found (codes "size") MIN_SIZE MAX_SIZE
  pub workers : IsNumber found (codes "workers") 1 MAX_WORKERS
  pub seed : IsNumber found (codes "seed") 0 MAX_SEED
  pub events : IsNumber found (codes "events") MIN_DRAWN_EVENTS MAX_DRAWN_EVENTS
  pub finding : IsNumber found (codes "finding") 1 MAX_FINDING

-- the command takes the words, and these are its matches
pub record AreMatches (words : List Text) (matches : ArgMatches) : Type 0 where
  pub taken : fault_of the_command words ≡ []
  pub rows : rows_of (found_of matches) ≡ matches_of the_command words
  pub numbers : HasNumbers (found_of matches)

-- a parse gives the matches, and refuses what the command does not take; want of memory says nothing
abbrev pub Parses : List Text → Result ArgMatches WordsFault → Type 0
Parses words (Ok matches) = AreMatches words matches
Parses words (Err (Usage text)) = fault_of the_command words ≢ []
Parses words (Err OutOfMemory) = Unit {0}
