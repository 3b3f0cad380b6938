-- A drawn text is read to its end.
use Rattle.std.proofs.Common.{◌≡◌, ℕ, zero, suc, ◌+◌, ◌-◌, ◌*◌, ◌<◌, ◌≤◌, List, [], ◌∷◌, ◌++◌, length, Some, refl, sym, ap, subst, ◌∙◌, arith, length-append, append-nil, append_assoc}
use Rattle.std.specs.Prelude.{slice_get}
use Rattle.std.specs.List.{flat_map}
use Rattle.std.specs.Fmt.{decimal}
use Rattle.std.proofs.lemmas.Grind.{flat_map-append}
use Rattle.std.proofs.lemmas.Fmt.{length-decimal-le}
use Rattle.std.proofs.lemmas.Option.{slice_get_within}
use Rattle.sp_base.specs.declared.limits.TheConstants.{MAX_EVENTS, MAX_THREADS, MAX_LOCKS, MAX_VARS, MAX_INPUT}
use Rattle.trace_laws.specs.Event.{Event}
use Rattle.trace_laws.specs.declared.event.Op.{Op}
use Rattle.trace_laws.specs.declared.event.Op.TheVariants.{Read, Write, Acquire, Release, Fork, Join}
use Rattle.trace_laws.specs.Trace.{Lawful}
use Rattle.trace_laws.proofs.Places.{slice_get-append_seam}
use Rattle.std_text.specs.Writing.{name_at, word_of, operand_name, event_line, trace_text, IsOperandNamed, IsNamed}
use Rattle.std_text.specs.Rereading.{IsWritable, HasText}
use Rattle.std_text.proofs.ReadAgain.{written_is_read}
use Rattle.drawn_trace.specs.declared.numbers.TheConstants.{THREADS, LOCKS, VARS}
use Rattle.drawn_trace.specs.Drawn.{DrawingState, first_state, turn, events_from, drawn_events, drawn_names, drawn_text, IsReadable}
use Rattle.drawn_trace.proofs.Turning.{IsDrawn, IsTurn, Sound, sound_turn, sound_first, sound_from}
use Rattle.drawn_trace.proofs.Naming.{name_short, letter_names_readable, threads_are, locks_are, vars_are, thread_count, lock_count, var_count, thread_name, lock_name, var_name}

-- what a drawn operation is on has a name
operand_named : (o : Op) → IsDrawn o → IsOperandNamed drawn_names o
operand_named (Read x) h = let count = var_count in omega arith
operand_named (Write x) h = let count = var_count in omega arith
operand_named (Acquire l) h = let count = lock_count in omega arith
operand_named (Release l) h = let count = lock_count in omega arith
operand_named (Fork u) h = absurd h
operand_named (Join u) h = absurd h

-- all that a drawn event names has a name
pub turn_named : (i : ℕ) (e : Event) → IsTurn i e → IsNamed drawn_names e
turn_named i e is = record { thread = let count = thread_count in let less = is.thread in omega arith; operand = operand_named e.op is.op }

-- the name of what a drawn operation is on is short
object_short : (o : Op) → IsDrawn o → length (operand_name drawn_names o) ≤ 3
object_short (Read x) h = subst (λ name. length name ≤ 3) (sym (var_name x (operand_named (Read x) h))) (name_short 88 VARS refl (omega arith) x h)
object_short (Write x) h = subst (λ name. length name ≤ 3) (sym (var_name x (operand_named (Write x) h))) (name_short 88 VARS refl (omega arith) x h)
object_short (Acquire l) h = subst (λ name. length name ≤ 3) (sym (lock_name l (operand_named (Acquire l) h))) (name_short 76 LOCKS refl (omega arith) l h)
object_short (Release l) h = subst (λ name. length name ≤ 3) (sym (lock_name l (operand_named (Release l) h))) (name_short 76 LOCKS refl (omega arith) l h)
object_short (Fork u) h = absurd h
object_short (Join u) h = absurd h

-- and so is that of a thread
thread_short : (t : ℕ) → t < THREADS → length (name_at drawn_names.threads t) ≤ 3
thread_short t h = let count = thread_count in subst (λ name. length name ≤ 3) (sym (thread_name t (omega arith))) (name_short 84 THREADS refl (omega arith) t h)

-- a word is short
word_short : (o : Op) → length (word_of o) ≤ 4
word_short (Read x) = omega arith
word_short (Write x) = omega arith
word_short (Acquire l) = omega arith
word_short (Release l) = omega arith
word_short (Fork u) = omega arith
word_short (Join u) = omega arith

-- the line of an event among the first 65,536 is short
line_short : (i : ℕ) (e : Event) → i < MAX_EVENTS → IsTurn i e → length (event_line drawn_names e) ≤ 256
line_short i e less is =
    let thread = thread_short e.thread is.thread in
    let word = word_short e.op in
    let object = object_short e.op is.op in
    let place = is.location in
    let digits : length (decimal e.loc) ≤ 5 = length-decimal-le 5 e.loc (omega arith) (omega arith) (omega arith) in
    simp length-append (omega arith)

-- lines of at most 256 bytes
lines_short : (f : Event → List ℕ) (events : List Event) → ((i : ℕ) (e : Event) → slice_get events i ≡ Some e → length (f e) ≤ 256) → length (flat_map f events) ≤ length events * 256
lines_short f [] each = omega arith
lines_short f (e ∷ events) each =
    let first : length (f e) ≤ 256 = each 0 e refl in
    let more = lines_short f events (λ i d at. each (suc i) d at) in
    omega (arith, length-append (f e) (flat_map f events))

-- so many turns make so many events
count_from : (n : ℕ) (s : DrawingState) → length (events_from s n) ≡ n
count_from zero s = refl
count_from (suc n) s = let more = count_from n (turn s).1 in omega arith

module _ (seed events : ℕ) (few : events ≤ MAX_EVENTS) where
  -- the events are those of sound turns
  all_sound : (last : DrawingState) × Sound (drawn_events seed events) last
  unfolding drawn_events
  all_sound = sound_from events [] (first_state seed) (sound_first seed)

  -- they are as many
  size : length (drawn_events seed events) ≡ events
  unfolding drawn_events
  size = count_from events (first_state seed)

  -- each can be written
  each_writable : (i : ℕ) (e : Event) → slice_get (drawn_events seed events) i ≡ Some e → IsWritable drawn_names e
  each_writable i e at =
      let is = all_sound.1.each i e at in
      let within : i < length (drawn_events seed events) = slice_get_within (drawn_events seed events) i e at in
      let place = is.location in
      let count = size in
      record { named = turn_named i e is; location = omega arith }

  -- each has a short line
  each_short : (i : ℕ) (e : Event) → slice_get (drawn_events seed events) i ≡ Some e → length (event_line drawn_names e) ≤ 256
  each_short i e at =
      let within : i < length (drawn_events seed events) = slice_get_within (drawn_events seed events) i e at in
      let count = size in
      line_short i e (omega arith) (all_sound.1.each i e at)

  -- the trace has a text
  has_text : HasText drawn_names (drawn_events seed events)
  has_text = record {
    lawful = all_sound.1.lawful;
    size = let count = size in omega arith;
    threads = rw threads_are (letter_names_readable 84 THREADS refl (omega arith) MAX_THREADS (omega arith));
    locks = rw locks_are (letter_names_readable 76 LOCKS refl (omega arith) MAX_LOCKS (omega arith));
    vars = rw vars_are (letter_names_readable 88 VARS refl (omega arith) MAX_VARS (omega arith));
    each = each_writable;
    short = let count = size in let short = lines_short (event_line drawn_names) (drawn_events seed events) each_short in omega arith;
  }

  -- and is lawful
  pub drawn_lawful : Lawful (drawn_events seed events)
  drawn_lawful = all_sound.1.lawful

  -- its text is read to its end
  pub drawn_readable : IsReadable (drawn_text seed events)
  unfolding drawn_text
  drawn_readable = let read = written_is_read drawn_names (drawn_events seed events) has_text in (read.0, read.1)

  -- and is short
  pub drawn_short : length (drawn_text seed events) ≤ MAX_INPUT
  unfolding drawn_text
  drawn_short = has_text.short

-- ---- the loop

-- after i turns of so many the state and the text are those of a front of the events
pub record Drew (seed events i : ℕ) (s : DrawingState) (text : List ℕ) : Type 0 where
  pub front : List Event
  pub sound : Sound front s
  pub count : length front ≡ i
  pub rest : front ++ events_from s (events - i) ≡ drawn_events seed events
  pub written : text ≡ trace_text drawn_names front

-- before the first
pub drew_none : (seed events : ℕ) → Drew seed events 0 (first_state seed) []
unfolding drawn_events
drew_none seed events = record { front = []; sound = sound_first seed; count = refl; rest = ap (events_from (first_state seed)) (omega arith); written = refl }

module _ (seed events i : ℕ) (s : DrawingState) (text : List ℕ) (less : i < events) (drew : Drew seed events i s text) where
  -- the place of the next event
  pub drew_place : s.place ≡ i
  drew_place = drew.sound.place ∙ drew.count

  -- the front with the next event is sound
  next_sound : Sound (drew.front ++ (turn s).0 ∷ []) (turn s).1
  next_sound = sound_turn drew.front s drew.sound

  -- the next event has names
  pub drew_named : IsNamed drawn_names (turn s).0
  drew_named = turn_named (length drew.front) (turn s).0 (next_sound.each (length drew.front) (turn s).0 (slice_get-append_seam drew.front (turn s).0))

  -- its line
  abbrev line : List ℕ
  line = event_line drawn_names (turn s).0

  -- after it
  pub drew_more : Drew seed events (i + 1) (turn s).1 (text ++ event_line drawn_names (turn s).0)
  drew_more = record {
    front = drew.front ++ (turn s).0 ∷ [];
    sound = next_sound;
    count = let count = drew.count in omega (arith, length-append drew.front ((turn s).0 ∷ []));
    rest = append_assoc drew.front ((turn s).0 ∷ []) (events_from (turn s).1 (events - (i + 1))) ∙ ap (λ n. drew.front ++ events_from s n) step ∙ drew.rest;
    written = ap (λ xs. xs ++ line) drew.written ∙ ap (λ xs. trace_text drawn_names drew.front ++ xs) (sym (append-nil line)) ∙ sym (flat_map-append (event_line drawn_names) drew.front ((turn s).0 ∷ []));
  }
    where
      step : suc (events - (i + 1)) ≡ events - i
      step = omega arith

-- after the last
pub drew_all : (seed events : ℕ) (s : DrawingState) (text : List ℕ) → Drew seed events events s text → text ≡ drawn_text seed events
unfolding drawn_text
drew_all seed events s text drew =
    let none : events - events ≡ 0 = omega arith in
    let whole : drew.front ≡ drawn_events seed events = sym (append-nil drew.front) ∙ ap (λ n. drew.front ++ events_from s n) (sym none) ∙ drew.rest in
    drew.written ∙ ap (trace_text drawn_names) whole
