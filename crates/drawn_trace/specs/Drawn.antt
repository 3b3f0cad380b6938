-- The trace that a seed draws, turn by turn.
use Rattle.std.specs.Prelude.{◌≡◌, ℕ, zero, suc, ◌+◌, ◌/◌, ◌%◌, Bool, true, false, not, ◌&&◌, ◌||◌, ◌==◌, nat_lt, if◌then◌else◌, List, [], ◌∷◌, ◌++◌, map, Ok, slice_get, slice_set, unwrap_or, codes, replicate}
use Rattle.std.specs.List.{list_any, range_with_len}
use Rattle.std.specs.Fmt.{decimal}
use Rattle.rand_pcg.specs.Lcg.{Lcg, started, increment_of}
use Rattle.rand_pcg.specs.Pcg.{multiplier_64, pcg32}
use Rattle.trace_laws.specs.Event.{Event}
use Rattle.trace_laws.specs.declared.event.Op.{Op}
use Rattle.trace_laws.specs.declared.event.Op.TheVariants.{Read, Write, Acquire, Release, Fork, Join}
use Rattle.trace_laws.specs.Names.{NameLists}
use Rattle.std_text.specs.Framing.{Progress, start, after, closed}
use Rattle.std_text.specs.Refusal.{◌>>=◌}
use Rattle.std_text.specs.Writing.{trace_text}
use Rattle.drawn_trace.specs.declared.numbers.TheConstants.{THREADS, LOCKS, VARS}
use Rattle.drawn_trace.specs.declared.held.Held.{Held}
use Rattle.drawn_trace.specs.declared.held.Held.TheVariants.{Nothing, One, Two}
use Rattle.drawn_trace.specs.declared.drawing.Words.{Words}

-- ---- what a thread holds

-- whether a thread that holds these locks holds the lock
abbrev pub holds_lock : Held → ℕ → Bool
holds_lock Nothing l = false
holds_lock (One k) l = k == l
holds_lock (Two j k) l = (j == l) || (k == l)

-- the locks with one more that is taken: a thread with two takes none
abbrev pub with_last : Held → ℕ → Held
with_last Nothing l = One l
with_last (One k) l = Two k l
with_last (Two j k) l = Two j k

-- the locks without the one that was taken last
abbrev pub without_last : Held → Held
without_last Nothing = Nothing
without_last (One k) = Nothing
without_last (Two j k) = One j

-- what a thread holds after its operation
abbrev pub locks_after : Held → Op → Held
locks_after own (Acquire l) = with_last own l
locks_after own (Release l) = without_last own
locks_after own _ = own

-- what a thread holds, by what each of them holds
abbrev pub held_by : List Held → ℕ → Held
held_by held t = unwrap_or (slice_get held t) Nothing

-- ---- what a thread does in a turn, by the word o

-- whether no thread holds the lock
abbrev pub is_free : List Held → ℕ → Bool
is_free held l = not (list_any (λ locks. holds_lock locks l) held)

-- whether a thread that holds these locks takes lock o modulo 8, where that one is free: with none it does, with one it does where the number of that one is less or the quotient of o by 8 is divisible by 64, and with two it does not
abbrev pub may_acquire : Held → ℕ → Bool
may_acquire Nothing o = true
may_acquire (One k) o = nat_lt k (o % LOCKS) || (o / LOCKS % 64 == 0)
may_acquire (Two j k) o = false

-- the release of the lock that was taken last, or else the other operation
abbrev pub release_or : Held → Op → Op
release_or Nothing other = other
release_or (One k) other = Release k
release_or (Two j k) other = Release k

-- an acquire where the lock may be taken, or else a release, or else a read
abbrev pub acquire_or_release : List Held → Held → ℕ → Op
acquire_or_release held own o =
    if is_free held (o % LOCKS) && may_acquire own o then Acquire (o % LOCKS)
    else release_or own (Read (o % VARS))

-- the operation of a thread that holds its own locks, by the first rule that applies to the action a
abbrev pub choose : List Held → Held → ℕ → ℕ → Op
choose held own a o =
    if nat_lt a 3 then Read (o % VARS)
    else if nat_lt a 5 then Write (o % VARS)
    else if nat_lt a 7 then acquire_or_release held own o
    else release_or own (Write (o % VARS))

-- ---- the turns

-- the generator, what each thread holds, and the place of the next event
pub record DrawingState : Type 0 where
  pub generator : Lcg
  pub held : List Held
  pub place : ℕ

-- before the first turn
abbrev pub first_state : ℕ → DrawingState
first_state seed = record { generator = started 64 multiplier_64 seed (increment_of 64 1); held = replicate THREADS Nothing; place = 0 }

-- the three words that a turn draws, and the generator behind them
unfoldable pub words : Lcg → Words × Lcg
words g =
    let thread = pcg32 g in
    let action = pcg32 thread.1 in
    let object = pcg32 action.1 in
    (record { thread = thread.0; action = action.0; object = object.0 }, object.1)

-- the event of a thread at a place
abbrev pub event_at : ℕ → Op → ℕ → Event
event_at t op place = record { thread = t; op = op; loc = place }

-- the state after an operation of a thread
abbrev pub after_operation : DrawingState → Lcg → ℕ → Op → DrawingState
after_operation s generator t op = record { generator = generator; held = slice_set s.held t (locks_after (held_by s.held t) op); place = s.place + 1 }

-- the event of a turn, and the state after it
unfoldable pub turn : DrawingState → Event × DrawingState
turn s =
    let drawn = words s.generator in
    let t = drawn.0.thread % THREADS in
    let op = choose s.held (held_by s.held t) (drawn.0.action % 8) drawn.0.object in
    (event_at t op s.place, after_operation s drawn.1 t op)

-- the events of so many turns
abbrev pub events_from : DrawingState → ℕ → List Event
events_from s zero = []
events_from s (suc n) = (turn s).0 ∷ events_from (turn s).1 n

-- the events of a seed and their number
unfoldable pub drawn_events : ℕ → ℕ → List Event
drawn_events seed events = events_from (first_state seed) events

-- ---- their text

-- so many names of a letter, with the numbers from 0
unfoldable pub letter_names : List ℕ → ℕ → List (List ℕ)
letter_names letter count = map (λ n. letter ++ decimal n) (range_with_len 0 count)

-- the names T0 to T3, L0 to L7 and X0 to X63
unfoldable pub drawn_names : NameLists
drawn_names = record { threads = letter_names (codes "T") THREADS; locks = letter_names (codes "L") LOCKS; vars = letter_names (codes "X") VARS }

-- the letter in the name of what an operation is on
abbrev pub operand_letter : Op → List ℕ
operand_letter (Read x) = codes "X"
operand_letter (Write x) = codes "X"
operand_letter (Acquire l) = codes "L"
operand_letter (Release l) = codes "L"
operand_letter (Fork u) = codes "T"
operand_letter (Join u) = codes "T"

-- the number of what an operation is on
abbrev pub operand_number : Op → ℕ
operand_number (Read x) = x
operand_number (Write x) = x
operand_number (Acquire l) = l
operand_number (Release l) = l
operand_number (Fork u) = u
operand_number (Join u) = u

-- the text of the events of a seed and their number
unfoldable pub drawn_text : ℕ → ℕ → List ℕ
drawn_text seed events = trace_text drawn_names (drawn_events seed events)

-- a text of which no line is refused
abbrev pub IsReadable : List ℕ → Type 0
IsReadable text = (p : Progress) × ((after start text >>= closed) ≡ Ok p)
