-- What the matches of the command mean.
use Rattle.std.proofs.Common.{arith, length, ◌≢◌, Bool, false, [], ◌∷◌, refl, ◌≡◌, ◌∙◌, ◌≤◌, ℕ, List, Option, None, Err, codes, sym, ap, subst, inl, inr}
use Rattle.std.specs.Prelude.{if◌then◌else◌, option_and_then, option_map}
use Rattle.std.specs.Option.{option_map_or}
use Rattle.std.proofs.lemmas.Bool.{ne_eqb}
use Rattle.clap.proofs.WalkLemmas.{first_value-rows}
use Rattle.clap.specs.Walk.{Text, is_empty, rows_of}
use Rattle.clap.specs.declared.parser.matches.ArgMatches.{ArgMatches}
use Rattle.clap.specs.declared.parser.matches.Found.{Found}
use Rattle.clap.specs.Words.{HasKind, Kinds, fault_of, first_value, found_of, kind_of, matches_of}
use Rattle.clap.specs.declared.error.Error.{Error}
use Rattle.clap.specs.declared.error.kind.ErrorKind.TheVariants as kind
use Rattle.command_words.specs.Parsed.{AreMatches, IsNumber, Parses}
use Rattle.command_words.specs.Words.{AnswersReading, written_number, option_value, reading_by, reading_in, reading_of, the_command}
use Rattle.command_words.specs.ModeNames.{mode_named}
use Rattle.command_words.specs.declared.mode.Mode.{Mode}
use Rattle.command_words.specs.declared.words.WordsFault.{WordsFault}
use Rattle.command_words.specs.declared.words.WordsFault.TheVariants.{Usage, OutOfMemory}

-- the number of an option is that of its text
pub number_is : (found : Found) (name : Text) (least most : ℕ) (n : IsNumber found name least most) → option_value name (rows_of found) ≡ written_number n.text
number_is found name least most n = ap (λ (o : Option Text). option_map_or written_number o 0) (sym (first_value-rows found name) ∙ n.first)

-- and lies in its range
pub number_within : (found : Found) (name : Text) (least most : ℕ) → IsNumber found name least most
    → (r : ℕ) → r ≡ option_value name (rows_of found) → (least ≤ r) × (r ≤ most)
number_within found name least most n r is =
    subst (λ (x : ℕ). (least ≤ x) × (x ≤ most)) (sym (is ∙ number_is found name least most n)) (n.range.2, n.range.3)

-- a usage fault of the parse comes only where the command does not take the words
pub fault_says : (words : List Text) (e : Error) (r : WordsFault) → HasKind (fault_of the_command words) e
    → (kind_of e ≡ kind.OutOfMemory → r ≡ OutOfMemory) → Parses words (Err r)
fault_says words e OutOfMemory kinds memory = tt
fault_says words e (Usage text) kinds memory = λ none. elim (subst (λ (k : Kinds). HasKind k e) none kinds) [
  | inl out ↦
      let bad : Usage text ≡ OutOfMemory = memory out in
      cc
  | inr other ↦ other
]

-- what the words mean is what their matches mean
pub meaning : (words : List Text) (m : ArgMatches) → AreMatches words m → (mode : Option Mode)
    → mode ≡ option_and_then mode_named (first_value (found_of m) (codes "mode"))
    → reading_of words ≡ option_map (reading_in (rows_of (found_of m))) mode
unfolding reading_of
meaning words m are mode is =
    ap (λ (k : Kinds). if is_empty k then reading_by (matches_of the_command words) else None) are.taken
    ∙ ap reading_by (sym are.rows)
    ∙ ap (λ (o : Option Text). option_map (reading_in (rows_of (found_of m))) (option_and_then mode_named o)) (sym (first_value-rows (found_of m) (codes "mode")))
    ∙ ap (option_map (reading_in (rows_of (found_of m)))) (sym is)

-- a list of kinds that is not nil is not empty
some_fault : (kinds : Kinds) → kinds ≢ [] → is_empty kinds ≡ false
some_fault [] some = absurd (some refl)
some_fault (k ∷ rest) some = ne_eqb (length (k ∷ rest)) 0 (λ e. omega arith)

-- where the parse refuses the words, they have no reading
pub no_meaning : (words : List Text) (r : WordsFault) → Parses words (Err r) → AnswersReading (reading_of words) (Err r)
unfolding reading_of
no_meaning words OutOfMemory refused = tt
no_meaning words (Usage text) refused =
    ap (λ (none : Bool). if none then reading_by (matches_of the_command words) else None) (some_fault (fault_of the_command words) refused)
