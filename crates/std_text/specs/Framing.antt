-- The lines of a text: where each ends, how long it may be, its number, and the text in pieces.
use Rattle.std.specs.Prelude.{◌≡◌, ℕ, ◌+◌, ◌-◌, Bool, List, [], ◌∷◌, ◌++◌, ◌==◌, ◌&&◌, length, take, slice_index, nat_lt, if◌then◌else◌, Result, Ok}
use Rattle.sp_base.specs.declared.limits.TheConstants.{MAX_LINE, MAX_INPUT}
use Rattle.trace_laws.specs.Names.{NameLists}
use Rattle.std_text.specs.Fields.{newline}
use Rattle.std_text.specs.Meaning.{Reading, refused, skipped, read_event}
use Rattle.std_text.specs.declared.fault.StdKind.TheVariants.{LineTooLong, InputTooLong}
use Rattle.std_text.specs.Refusal.{Refusal, ◌>>=◌}

-- the byte that one line may have at its end and that is dropped
abbrev pub carriage_return : ℕ
carriage_return = 13

-- the whole lines of a text, and what stands after the last newline
pub record Cut : Type 0 where
  pub lines : List (List ℕ)
  pub rest : List ℕ

-- a text behind the front of a line
abbrev pub cut_after : List ℕ → List ℕ → Cut
cut_after front [] = record { lines = []; rest = front }
cut_after front (b ∷ bs) =
    if b == newline
    then record { lines = front ∷ (cut_after [] bs).lines; rest = (cut_after [] bs).rest }
    else cut_after (front ++ b ∷ []) bs

-- a line without the one carriage return at its end
abbrev pub content : List ℕ → List ℕ
content line =
    if nat_lt 0 (length line) && (slice_index line (length line - 1) == carriage_return)
    then take (length line - 1) line
    else line

-- after one more line: it is refused where it is too long, skipped and counted where it is empty, and else read for what it means
unfoldable pub read_line : Reading → List ℕ → Result Reading Refusal
read_line r line =
    if nat_lt MAX_LINE (length line) then refused r LineTooLong
    else if length (content line) == 0 then Ok (skipped r)
    else read_event r (content line)

-- after these lines, up to the first that is refused
abbrev pub read_lines : Reading → List (List ℕ) → Result Reading Refusal
read_lines r [] = Ok r
read_lines r (line ∷ lines) = read_line r line >>= λ s. read_lines s lines

-- a reading in the midst of a text: its whole lines, the front of the next one, and how many bytes there were
pub record Progress : Type 0 where
  pub reading : Reading
  pub rest : List ℕ
  pub taken : ℕ

-- no line yet, where some names have numbers and the first line has this number
abbrev pub begun_with : NameLists → ℕ → Reading
begun_with names line = record { events = []; names = names; line = line }

-- before the first byte, where some names have numbers and the first line has this number
abbrev pub start_with : NameLists → ℕ → Progress
start_with names line = record { reading = begun_with names line; rest = []; taken = 0 }

-- no names
abbrev pub no_names : NameLists
no_names = record { threads = []; locks = []; vars = [] }

-- no line yet
abbrev pub begun : Reading
begun = begun_with no_names 1

-- before the first byte
abbrev pub start : Progress
start = start_with no_names 1

-- after bytes behind the front of a line, with or without the byte past the limit behind them: a line is refused at the byte by which it is too long, that byte with the number of its line
abbrev pub through : Reading → List ℕ → List ℕ → Bool → ℕ → Result Progress Refusal
through r front bytes too_many taken =
    read_lines r (cut_after front bytes).lines >>= λ s.
    if nat_lt MAX_LINE (length (cut_after front bytes).rest) then refused s LineTooLong
    else if too_many then refused s InputTooLong
    else Ok (record { reading = s; rest = (cut_after front bytes).rest; taken = taken })

-- after more bytes: those within the limit, and perhaps the byte past it
unfoldable pub after : Progress → List ℕ → Result Progress Refusal
after p bytes = through p.reading p.rest (take (MAX_INPUT - p.taken) bytes) (nat_lt MAX_INPUT (p.taken + length bytes)) (p.taken + length bytes)

-- at the end what is left is the last line
unfoldable pub closed : Progress → Result Progress Refusal
closed p = if length p.rest == 0 then Ok p else (read_line p.reading p.rest >>= λ r. Ok (record { reading = r; rest = []; taken = p.taken }))

-- bytes that come in two pieces are read as all of them
abbrev pub PiecesAreTheText : Type 0
PiecesAreTheText = (p : Progress) (front back : List ℕ) → after p (front ++ back) ≡ (after p front >>= λ q. after q back)
