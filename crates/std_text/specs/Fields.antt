-- The fields of a trace line: thread|word(operand)|location
use Rattle.std.specs.Prelude.{ℕ, ◌-◌, ◌+◌, ◌^◌, Bool, List, [], ◌==◌, ◌&&◌, ◌||◌, not, length, take, drop, position, slice_index, nat_lt, nat_eq, if◌then◌else◌, option_and_then, codes, Result, Ok, Err}
use Rattle.std.specs.declared.option.Option.{Option}
use Rattle.std.specs.declared.option.Option.TheVariants.{None, Some}
use Rattle.std.specs.Option.{option_map, option_map_or, unwrap_or}
use Rattle.std.specs.Cmp.Lexicographic.{pointwise}
use Rattle.sp_base.specs.Digits.{number_written}
use Rattle.trace_laws.specs.Names.{is_name}
use Rattle.std_text.specs.declared.fields.Action.{Action}
use Rattle.std_text.specs.declared.fields.Action.TheVariants.{Read, Write, Acquire, Release, Fork, Join}
use Rattle.std_text.specs.declared.fault.StdKind.{StdKind}
use Rattle.std_text.specs.declared.fault.StdKind.TheVariants.{NoBar, BadName, UnknownOperation, BadOperand}
use Rattle.std_text.specs.Refusal.{◌>>=◌, or_refused}

-- the byte that ends a line
abbrev pub newline : ℕ
newline = 10

-- the byte that divides the fields of a line
abbrev pub bar : ℕ
bar = 124

-- the byte before an operand
abbrev pub opening : ℕ
opening = 40

-- the byte behind an operand
abbrev pub closing : ℕ
closing = 41

-- what stands before the first such byte and after it, where there is one
abbrev pub split_first : ℕ → List ℕ → Option (List ℕ × List ℕ)
split_first at bytes = option_map (λ i. (take i bytes, drop (i + 1) bytes)) (position (λ b. b == at) bytes)

-- what stands before a last byte, where that is the last one
abbrev pub split_last : ℕ → List ℕ → Option (List ℕ)
split_last at bytes =
    if nat_lt 0 (length bytes) && (slice_index bytes (length bytes - 1) == at)
    then Some (take (length bytes - 1) bytes)
    else None

-- what the word of an operation says
abbrev pub action_of : List ℕ → Option Action
action_of word =
    if pointwise nat_eq word (codes "r") then Some Read
    else if pointwise nat_eq word (codes "w") then Some Write
    else if pointwise nat_eq word (codes "acq") then Some Acquire
    else if pointwise nat_eq word (codes "rel") then Some Release
    else if pointwise nat_eq word (codes "fork") then Some Fork
    else if pointwise nat_eq word (codes "join") then Some Join
    else None

-- the words of lines that are skipped
abbrev pub is_skipped : List ℕ → Bool
is_skipped word = pointwise nat_eq word (codes "begin") || pointwise nat_eq word (codes "end")

-- the parts of a line that is an event
pub record Parts : Type 0 where
  pub thread : List ℕ
  pub action : Action
  pub operand : List ℕ
  pub location : ℕ

-- what stands before the first such byte, or all where there is none
abbrev pub before_first : ℕ → List ℕ → List ℕ
before_first at bytes = option_map_or (λ i. take i bytes) (position (λ b. b == at) bytes) bytes

-- the operation field at the front of what comes after the thread, which ends at a bar or with the line
abbrev pub operation_field : List ℕ → List ℕ
operation_field bytes = before_first bar bytes

-- the location field of what comes after the thread: what stands after its first bar
abbrev pub location_field : List ℕ → List ℕ
location_field bytes = option_map_or (λ i. drop (i + 1) bytes) (position (λ b. b == bar) bytes) []

-- the word of an operation field: what stands before its first opening parenthesis, or all of it where it has none
abbrev pub operation_word : List ℕ → List ℕ
operation_word field = before_first opening field

-- the operand of an operation field: what stands between its first opening parenthesis and a closing one at its end
abbrev pub operand_of : List ℕ → Option (List ℕ)
operand_of field = option_and_then (λ halves. split_last closing halves.1) (split_first opening field)

-- the location is the field's number, or 0 where it is none or needs more than 32 bits
unfoldable pub location_written : List ℕ → ℕ
location_written field = unwrap_or (number_written (2 ^ 32 - 1) field) 0

-- what a line says whose word is not one of those skipped: its parts, or the first fault of its thread, word and operand
unfoldable pub event_says : List ℕ → List ℕ → List ℕ → Result (Option Parts) StdKind
event_says thread operation location =
    if not (is_name thread) then Err BadName
    else (or_refused UnknownOperation (action_of (operation_word operation)) >>= λ action. or_refused BadOperand (operand_of operation) >>= λ operand.
    if is_name operand then Ok (Some (record { thread = thread; action = action; operand = operand; location = location_written location })) else Err BadName)

-- what a line says that is not empty: the parts of an event, or nothing where it is skipped, or its fault
unfoldable pub line_says : List ℕ → Result (Option Parts) StdKind
line_says line =
    or_refused NoBar (split_first bar line) >>= λ fields.
    if is_skipped (operation_word (operation_field fields.1)) then Ok None
    else event_says fields.0 (operation_field fields.1) (location_field fields.1)
