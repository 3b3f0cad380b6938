-- What is written of a trace is read again as the same trace.
use Rattle.std.proofs.Common.{◌≡◌, ℕ, zero, suc, ◌+◌, ◌-◌, ◌<◌, ◌≤◌, ◌^◌, Bool, true, false, true≢false, not, cond, ◌&&◌, ◌==◌, List, [], ◌∷◌, ◌++◌, length, map, get_or, Some, None, Ok, refl, sym, ap, subst, ◌∙◌, arith, append-nil, append_assoc, length-append, eqb-true, take}
use Rattle.std.specs.Prelude.{slice_get, slice_index, nat_lt, unwrap_or, codes}
use Rattle.std.specs.List.{list_all}
use Rattle.std.specs.Option.{option_map}
use Rattle.std.specs.Fmt.{decimal}
use Rattle.std.proofs.lemmas.Bool.{ne_eqb, not-true, le-ltb, le-leb}
use Rattle.std.proofs.lemmas.Fmt.{decimal_nonempty, length-decimal-le}
use Rattle.std.proofs.lemmas.List.{length-map, map-append, get_or-append_right}
use Rattle.std.proofs.lemmas.List.Folds.{list_all_at}
use Rattle.std.proofs.Math.Bool.{and-false}
use Rattle.std.proofs.lemmas.Option.{slice_get_within, slice_get-map}
use Rattle.sp_base.specs.declared.limits.TheConstants.{MAX_EVENTS, MAX_THREADS, MAX_LOCKS, MAX_VARS, MAX_INPUT, MAX_LINE}
use Rattle.trace_laws.specs.Event.{Event}
use Rattle.trace_laws.specs.declared.event.Op.{Op}
use Rattle.trace_laws.specs.declared.event.Op.TheVariants.{Read, Write, Acquire, Release, Fork, Join}
use Rattle.sp_base.specs.Digits.{is_digit}
use Rattle.trace_laws.specs.Names.{NameLists, is_name, number_of, with_name}
use Rattle.trace_laws.specs.Trace.{Lawful}
use Rattle.std_text.specs.declared.fields.Action.{Action}
use Rattle.std_text.specs.declared.fields.Action.TheVariants as action
use Rattle.std_text.specs.Fields.{Parts, bar, opening, closing}
use Rattle.std_text.specs.Law.{Tells, law_fault}
use Rattle.std_text.specs.Meaning.{Reading, read_parts, event_of, with_thread, with_lock, with_var, with_operand, with_names, fits, op_on}
use Rattle.std_text.specs.Refusal.{◌>>=◌}
use Rattle.std_text.specs.Framing.{Progress, content, read_line, start, after, closed}
use Rattle.std_text.specs.Writing.{name_at, word_of, operand_name, IsOperandNamed, event_line, trace_text}
use Rattle.std_text.specs.Rereading.{AreReadable, IsWritable, HasText, SaysSame, AreSame, WrittenIsRead}
use Rattle.std_text.proofs.TextPieces.{after_append, after_none, after_byte, after_newline, no_last_line}
use Rattle.std_text.proofs.EventLemmas.{by_law}
use Rattle.trace_laws.proofs.Following.{follows_front}
use Rattle.std_text.proofs.HolderLemmas.{tells_none, tells_push}
use Rattle.std_text.proofs.LawLemmas.{computes_laws, none_broken}
use Rattle.std_text.proofs.Spelling.{both, Says, says, plain, list_all-weaken, list_all-both, location_is, all_digits}
use Rattle.std_text.proofs.Numbering.{has, place, with_number, spelled, AreNumbers, numbers_none, numbers_with, numbers_few, place_new, place_at, number_is, with_is}
use Rattle.std_text.proofs.Renumbering.{Came, op_with, event_with, HasAll, HaveAll, HasOperand, with_thread_number, with_operand_number, with_event, keeps_event, has_event, thread_place, more_events, have_push, law_none}

-- ---- bytes of a line

-- bytes that end no line go onto it
after_line : (p : Progress) (line : List ℕ) → list_all (λ b. not (b == 10)) line ≡ true → p.taken + length line ≤ MAX_INPUT → length p.rest + length line ≤ MAX_LINE
    → after p line ≡ Ok (record { reading = p.reading; rest = p.rest ++ line; taken = p.taken + length line })
after_line p [] none room short =
    let same : p.taken + 0 ≡ p.taken = omega arith in
    after_none p (omega arith) (omega arith) ∙ rw (append-nil p.rest, same) refl
after_line p (b ∷ line) none room short =
    let parts = both (not (b == 10)) (list_all (λ c. not (c == 10)) line) none in
    let q : Progress = record { reading = p.reading; rest = p.rest ++ b ∷ []; taken = p.taken + 1 } in
    let size = length-append p.rest (b ∷ []) in
    let first : after p (b ∷ []) ≡ Ok q = after_byte p b (omega arith) (not-true (b == 10) parts.0) (omega arith) in
    let count : p.taken + 1 + length line ≡ p.taken + length (b ∷ line) = omega arith in
    let few : q.taken + length line ≤ MAX_INPUT = omega arith in
    let short_still : length q.rest + length line ≤ MAX_LINE = omega (arith, size) in
    let both_same : Ok (record { reading = p.reading; rest = p.rest ++ b ∷ [] ++ line; taken = p.taken + 1 + length line }) ≡ Ok (record { reading = p.reading; rest = p.rest ++ b ∷ line; taken = p.taken + length (b ∷ line) }) =
    λ i. Ok (record { reading = p.reading; rest = append_assoc p.rest (b ∷ []) line i; taken = count i }) in
    after_append p (b ∷ []) line ∙ ap (λ x. x >>= λ q. after q line) first ∙ after_line q line parts.1 few short_still ∙ both_same

-- a line that ends with a digit keeps its end
content_is : (front digits : List ℕ) → 0 < length digits → list_all is_digit digits ≡ true → content (front ++ digits) ≡ front ++ digits
content_is front digits some all = by (slice_index (front ++ digits) (length (front ++ digits) - 1) == 13) refl
  where
    size : length (front ++ digits) ≡ length front + length digits
    size = length-append front digits

    last : slice_index (front ++ digits) (length (front ++ digits) - 1) ≡ get_or digits (length (front ++ digits) - 1 - length front) 0
    last = get_or-append_right front digits (length front) (length (front ++ digits) - 1) 0 refl (omega (arith, size))

    by : (v : Bool) → (slice_index (front ++ digits) (length (front ++ digits) - 1) == 13) ≡ v → cond (nat_lt 0 (length (front ++ digits)) && v) (take (length (front ++ digits) - 1) (front ++ digits)) (front ++ digits) ≡ front ++ digits
    by true is =
        let at : get_or digits (length (front ++ digits) - 1 - length front) 0 ≡ 13 = sym last ∙ eqb-true _ 13 is in
        let no : is_digit (get_or digits (length (front ++ digits) - 1 - length front) 0) ≡ false = rw at refl in
        absurd (true≢false (sym all ∙ list_all_at is_digit digits (length (front ++ digits) - 1 - length front) 0 (omega (arith, size)) no))
    by false is = rw and-false refl

-- ---- a line

-- the action of an operation
abbrev action_for : Op → Action
action_for (Read x) = action.Read
action_for (Write x) = action.Write
action_for (Acquire l) = action.Acquire
action_for (Release l) = action.Release
action_for (Fork u) = action.Fork
action_for (Join u) = action.Join

-- its word says it
says_action : (o : Op) → Says (word_of o) (action_for o)
says_action (Read x) = record { no_opening = refl; no_bar = refl; read = refl; is = refl }
says_action (Write x) = record { no_opening = refl; no_bar = refl; read = refl; is = refl }
says_action (Acquire l) = record { no_opening = refl; no_bar = refl; read = refl; is = refl }
says_action (Release l) = record { no_opening = refl; no_bar = refl; read = refl; is = refl }
says_action (Fork u) = record { no_opening = refl; no_bar = refl; read = refl; is = refl }
says_action (Join u) = record { no_opening = refl; no_bar = refl; read = refl; is = refl }

-- a word is short and ends no line
word_fits : (o : Op) → (list_all (λ b. not (b == 10)) (word_of o) ≡ true) × (length (word_of o) ≤ 4)
word_fits (Read x) = (refl, omega arith)
word_fits (Write x) = (refl, omega arith)
word_fits (Acquire l) = (refl, omega arith)
word_fits (Release l) = (refl, omega arith)
word_fits (Fork u) = (refl, omega arith)
word_fits (Join u) = (refl, omega arith)

-- a digit ends no line
digit_fits : (b : ℕ) → is_digit b ≡ true → not (b == 10) ≡ true
digit_fits b h = by (b == 10) refl
  where
    by : (v : Bool) → (b == 10) ≡ v → not v ≡ true
    by true is = let same = eqb-true b 10 is in let no : is_digit b ≡ false = rw same refl in absurd (true≢false (sym h ∙ no))
    by false is = refl

-- the parts of a line together
abbrev joined : List ℕ → List ℕ → List ℕ → List ℕ → List ℕ
joined thread word operand place = thread ++ (bar ∷ (word ++ (opening ∷ (operand ++ closing ∷ bar ∷ place))))

-- the written line, part by part
line_parts : (thread word operand place : List ℕ) → (thread ++ codes "|" ++ (word ++ codes "(" ++ operand ++ codes ")")) ++ codes "|" ++ place ++ codes "\n" ≡ joined thread word operand place ++ 10 ∷ []
line_parts thread word operand place = simp append_assoc refl

-- its front, and its location
front_parts : (thread word operand place : List ℕ) → joined thread word operand place ≡ joined thread word operand [] ++ place
front_parts thread word operand place = simp append_assoc refl

-- an event of a lawful trace breaks no law, as computed
law_kept : (front back : List Event) (e : Event) → Tells front → Lawful (front ++ e ∷ back) → law_fault front e ≡ None
law_kept front back e tells lawful = none_broken front e (follows_front front back e lawful) (law_fault front e) (computes_laws front tells e)

-- ---- a trace whose names can be read

module _ (names : NameLists) (ts : AreReadable names.threads MAX_THREADS) (ls : AreReadable names.locks MAX_LOCKS) (vs : AreReadable names.vars MAX_VARS) where
  -- the line of an event without its newline
  abbrev bare : Event → List ℕ
  bare e = joined (name_at names.threads e.thread) (word_of e.op) (operand_name names e.op) (decimal e.loc)

  -- what it says
  abbrev parts : Event → Parts
  parts e = record { thread = name_at names.threads e.thread; action = action_for e.op; operand = operand_name names e.op; location = e.loc }

  -- what an operation is on has a name
  operand_valid : (o : Op) → IsOperandNamed names o → is_name (operand_name names o) ≡ true
  operand_valid (Read x) h = vs.valid x h
  operand_valid (Write x) h = vs.valid x h
  operand_valid (Acquire l) h = ls.valid l h
  operand_valid (Release l) h = ls.valid l h
  operand_valid (Fork u) h = ts.valid u h
  operand_valid (Join u) h = ts.valid u h

  module _ (e : Event) (w : IsWritable names e) where
    -- its length
    short : length (bare e) ≤ 600
    short =
        let t = (plain (name_at names.threads e.thread) (ts.valid e.thread w.named.thread)).few in
        let o = (plain (operand_name names e.op) (operand_valid e.op w.named.operand)).few in
        let d = length-decimal-le 10 e.loc (omega arith) (let l : e.loc < 2 ^ 32 = w.location in omega arith) (let l : e.loc < 2 ^ 32 = w.location in omega arith) in
        let a = length-append (name_at names.threads e.thread) (bar ∷ (word_of e.op ++ (opening ∷ (operand_name names e.op ++ closing ∷ bar ∷ decimal e.loc)))) in
        let b = length-append (word_of e.op) (opening ∷ (operand_name names e.op ++ closing ∷ bar ∷ decimal e.loc)) in
        let c = length-append (operand_name names e.op) (closing ∷ bar ∷ decimal e.loc) in
        let v = (word_fits e.op).1 in
        omega (arith, a, b, c, d, t, o, v)

    -- it has no newline
    one_line : list_all (λ b. not (b == 10)) (bare e) ≡ true
    one_line =
        let t = (plain (name_at names.threads e.thread) (ts.valid e.thread w.named.thread)).no_newline in
        let o = (plain (operand_name names e.op) (operand_valid e.op w.named.operand)).no_newline in
        let d = list_all-weaken is_digit _ digit_fits (decimal e.loc) (all_digits e.loc w.location) in
        list_all-both _ (name_at names.threads e.thread) _ t (list_all-both _ (word_of e.op) _ (word_fits e.op).0 (list_all-both _ (operand_name names e.op) _ o d))

    -- it is read for what it says
    line_read : (r : Reading) → read_line r (bare e) ≡ read_parts r (parts e)
    unfolding read_line
    line_read r =
        let some = decimal_nonempty e.loc (let l : e.loc < 2 ^ 32 = w.location in omega arith) in
        let front = front_parts (name_at names.threads e.thread) (word_of e.op) (operand_name names e.op) (decimal e.loc) in
        let same : content (bare e) ≡ bare e = ap content front ∙ content_is _ (decimal e.loc) some (all_digits e.loc w.location) ∙ sym front in
        let long = ap length front in
        let size = length-append (joined (name_at names.threads e.thread) (word_of e.op) (operand_name names e.op) []) (decimal e.loc) in
        let not_empty : (length (bare e) == 0) ≡ false = ne_eqb _ 0 (λ z. omega (arith, long, size, some, z)) in
        let said = says (name_at names.threads e.thread) (word_of e.op) (operand_name names e.op) (decimal e.loc) (action_for e.op) (ts.valid e.thread w.named.thread) (operand_valid e.op w.named.operand) (says_action e.op) in
        rw (le-ltb MAX_LINE (length (bare e)) (omega (arith, short)), same, not_empty, said, location_is e.loc w.location) refl

    -- with its newline it is the line of the event
    line_is : event_line names e ≡ bare e ++ 10 ∷ []
    line_is = line_parts (name_at names.threads e.thread) (word_of e.op) (operand_name names e.op) (decimal e.loc)

  -- ---- names that came

  -- the names of the numbers that came
  abbrev came_names : Came → NameLists
  came_names g = record { threads = spelled names.threads g.threads; locks = spelled names.locks g.locks; vars = spelled names.vars g.vars }

  -- the numbers that came are numbers of names
  record Sound (g : Came) : Type 0 where
    threads : AreNumbers (length names.threads) g.threads
    locks : AreNumbers (length names.locks) g.locks
    vars : AreNumbers (length names.vars) g.vars

  -- so they are after a thread
  sound_thread : (g : Came) (t : ℕ) → t < length names.threads → Sound g → Sound (with_thread_number g t)
  sound_thread g t less s = record { threads = numbers_with _ g.threads t s.threads less; locks = s.locks; vars = s.vars }

  -- and what an operation is on
  sound_operand : (g : Came) (o : Op) → IsOperandNamed names o → Sound g → Sound (with_operand_number g o)
  sound_operand g (Read x) h s = record { threads = s.threads; locks = s.locks; vars = numbers_with _ g.vars x s.vars h }
  sound_operand g (Write x) h s = record { threads = s.threads; locks = s.locks; vars = numbers_with _ g.vars x s.vars h }
  sound_operand g (Acquire l) h s = record { threads = s.threads; locks = numbers_with _ g.locks l s.locks h; vars = s.vars }
  sound_operand g (Release l) h s = record { threads = s.threads; locks = numbers_with _ g.locks l s.locks h; vars = s.vars }
  sound_operand g (Fork u) h s = sound_thread g u h s
  sound_operand g (Join u) h s = sound_thread g u h s

  -- the names after a thread
  thread_names : (g : Came) (t : ℕ) → t < length names.threads → Sound g → with_thread (came_names g) (name_at names.threads t) ≡ came_names (with_thread_number g t)
  thread_names g t less s = let is = with_is names.threads MAX_THREADS ts t less g.threads s.threads in λ i. record { threads = is i; locks = spelled names.locks g.locks; vars = spelled names.vars g.vars }

  -- after a lock
  lock_names : (g : Came) (l : ℕ) → l < length names.locks → Sound g → with_lock (came_names g) (name_at names.locks l) ≡ came_names (record g { locks = with_number g.locks l })
  lock_names g l less s = let is = with_is names.locks MAX_LOCKS ls l less g.locks s.locks in λ i. record { threads = spelled names.threads g.threads; locks = is i; vars = spelled names.vars g.vars }

  -- after a variable
  var_names : (g : Came) (x : ℕ) → x < length names.vars → Sound g → with_var (came_names g) (name_at names.vars x) ≡ came_names (record g { vars = with_number g.vars x })
  var_names g x less s = let is = with_is names.vars MAX_VARS vs x less g.vars s.vars in λ i. record { threads = spelled names.threads g.threads; locks = spelled names.locks g.locks; vars = is i }

  -- and after what an operation is on
  operand_names : (g : Came) (o : Op) → IsOperandNamed names o → Sound g → with_operand (came_names g) (action_for o) (operand_name names o) ≡ came_names (with_operand_number g o)
  operand_names g (Read x) h s = var_names g x h s
  operand_names g (Write x) h s = var_names g x h s
  operand_names g (Acquire l) h s = lock_names g l h s
  operand_names g (Release l) h s = lock_names g l h s
  operand_names g (Fork u) h s = thread_names g u h s
  operand_names g (Join u) h s = thread_names g u h s

  -- the number of a thread
  thread_number : (g : Came) (t : ℕ) → t < length names.threads → Sound g → number_of (spelled names.threads g.threads) (name_at names.threads t) ≡ place (with_number g.threads t) t
  thread_number g t less s = number_is names.threads MAX_THREADS ts t less g.threads s.threads.below ∙ sym (place_new g.threads t)

  -- and of what an operation is on
  operand_number : (g : Came) (o : Op) → IsOperandNamed names o → Sound g → op_on (came_names g) (action_for o) (operand_name names o) ≡ op_with (with_operand_number g o) o
  operand_number g (Read x) h s = ap Read (number_is names.vars MAX_VARS vs x h g.vars s.vars.below ∙ sym (place_new g.vars x))
  operand_number g (Write x) h s = ap Write (number_is names.vars MAX_VARS vs x h g.vars s.vars.below ∙ sym (place_new g.vars x))
  operand_number g (Acquire l) h s = ap Acquire (number_is names.locks MAX_LOCKS ls l h g.locks s.locks.below ∙ sym (place_new g.locks l))
  operand_number g (Release l) h s = ap Release (number_is names.locks MAX_LOCKS ls l h g.locks s.locks.below ∙ sym (place_new g.locks l))
  operand_number g (Fork u) h s = ap Fork (thread_number g u h s)
  operand_number g (Join u) h s = ap Join (thread_number g u h s)

  -- there is room for the names that came
  came_few : (all : List (List ℕ)) (limit : ℕ) (came : List ℕ) → length all ≤ limit → AreNumbers (length all) came → length (spelled all came) ≤ limit
  came_few all limit came few are = let count = numbers_few (length all) came are in let size = length-map came (name_at all) in omega arith

  came_fit : (g : Came) (o : Op) → Sound g → fits (came_names g) (action_for o) ≡ true
  came_fit g (Read x) s = le-leb _ _ (came_few names.vars MAX_VARS g.vars vs.few s.vars)
  came_fit g (Write x) s = le-leb _ _ (came_few names.vars MAX_VARS g.vars vs.few s.vars)
  came_fit g (Acquire l) s = le-leb _ _ (came_few names.locks MAX_LOCKS g.locks ls.few s.locks)
  came_fit g (Release l) s = le-leb _ _ (came_few names.locks MAX_LOCKS g.locks ls.few s.locks)
  came_fit g (Fork u) s = le-leb _ _ (came_few names.threads MAX_THREADS g.threads ts.few s.threads)
  came_fit g (Join u) s = le-leb _ _ (came_few names.threads MAX_THREADS g.threads ts.few s.threads)

  -- ---- one event

  -- the reading after the lines of these events
  abbrev reading : Came → List Event → ℕ → Reading
  reading g events line = record { events = map (event_with g) events; names = came_names g; line = line }

  module _ (g : Came) (front : List Event) (line : ℕ) (e : Event) (w : IsWritable names e) (sound : Sound g) (all : HaveAll g front) (room : length front < MAX_EVENTS) (none : law_fault front e ≡ None) where
    -- the numbers that came are sound after the event
    sound_event : Sound (with_event g e)
    sound_event = sound_operand (with_thread_number g e.thread) e.op w.named.operand (sound_thread g e.thread w.named.thread sound)

    -- its names came
    names_after : with_names (came_names g) (parts e) ≡ came_names (with_event g e)
    names_after = ap (λ n. with_operand n (action_for e.op) (operand_name names e.op)) (thread_names g e.thread w.named.thread sound)
        ∙ operand_names (with_thread_number g e.thread) e.op w.named.operand (sound_thread g e.thread w.named.thread sound)

    -- it is the event that the line says
    event_after : event_with (with_event g e) e ≡ event_of (reading g front line) (parts e)
    event_after =
        let thread = thread_place g e ∙ sym (thread_number g e.thread w.named.thread sound) in
        let first = thread_names g e.thread w.named.thread sound in
        let op = sym (ap (λ n. op_on n (action_for e.op) (operand_name names e.op)) first ∙ operand_number (with_thread_number g e.thread) e.op w.named.operand (sound_thread g e.thread w.named.thread sound)) in
        λ i. record { thread = thread i; op = op i; loc = e.loc }

    -- the events before it stay
    events_after : map (event_with (with_event g e)) (front ++ e ∷ []) ≡ map (event_with g) front ++ event_with (with_event g e) e ∷ []
    events_after = map-append (event_with (with_event g e)) front (e ∷ []) ∙ ap (λ es. es ++ event_with (with_event g e) e ∷ []) (more_events g (with_event g e) front (keeps_event g e) all).1

    -- so its line is read as this event
    event_read : read_parts (reading g front line) (parts e) ≡ Ok (reading (with_event g e) (front ++ e ∷ []) (line + 1))
    event_read =
        let new = with_event g e in
        let kept = more_events g new front (keeps_event g e) all in
        let law : law_fault (map (event_with g) front) (event_with new e) ≡ None = rw (← kept.1) (law_none new front kept.0 e (has_event g e) none) in
        let less : length (map (event_with g) front) < MAX_EVENTS = (let size = length-map front (event_with g) in omega arith) in
        let threads : length (with_name (spelled names.threads g.threads) (name_at names.threads e.thread)) ≤ MAX_THREADS =
        rw (ap (λ n. n.threads) (thread_names g e.thread w.named.thread sound)) (came_few names.threads MAX_THREADS _ ts.few (sound_thread g e.thread w.named.thread sound).threads) in
        let operand : fits (with_names (came_names g) (parts e)) (action_for e.op) ≡ true = rw names_after (came_fit new e.op sound_event) in
        by_law (reading g front line) (parts e) (event_with new e) event_after less threads operand None law
        ∙ rw (← event_after, names_after, ← events_after) refl

    -- the bytes of its line
    line_after : (taken : ℕ) → taken + length (event_line names e) ≤ MAX_INPUT
        → after (record { reading = reading g front line; rest = []; taken = taken }) (event_line names e)
        ≡ Ok (record { reading = reading (with_event g e) (front ++ e ∷ []) (line + 1); rest = []; taken = taken + length (event_line names e) })
    line_after taken fits_in =
        let p : Progress = record { reading = reading g front line; rest = []; taken = taken } in
        let q : Progress = record { reading = reading g front line; rest = bare e; taken = taken + length (bare e) } in
        let size = ap length (line_is e w) in
        let both_sizes = length-append (bare e) (10 ∷ []) in
        let few = short e w in
        let read = line_read e w (reading g front line) ∙ event_read in
        let first : after p (bare e) ≡ Ok q = after_line p (bare e) (one_line e w) (omega arith) (omega arith) in
        let count : taken + length (bare e) + 1 ≡ taken + length (event_line names e) = omega arith in
        ap (after p) (line_is e w) ∙ after_append p (bare e) (10 ∷ []) ∙ ap (λ x. x >>= λ s. after s (10 ∷ [])) first ∙ after_newline q 10 (omega arith) refl
        ∙ ap (λ x. x >>= λ r. Ok (record { reading = r; rest = []; taken = taken + length (bare e) + 1 })) read
        ∙ (λ i. Ok (record { reading = reading (with_event g e) (front ++ e ∷ []) (line + 1); rest = []; taken = count i }))

  -- ---- all events

  -- each of them can be written
  abbrev AllWritable : List Event → Type 0
  AllWritable [] = Unit {0}
  AllWritable (e ∷ events) = IsWritable names e × AllWritable events

  -- what stands after the lines of all events
  record IsRead (g : Came) (front back : List Event) (line taken : ℕ) : Type 0 where
    came : Came
    next : ℕ
    sound : Sound came
    all : HaveAll came (front ++ back)
    read : after (record { reading = reading g front line; rest = []; taken = taken }) (trace_text names back)
        ≡ Ok (record { reading = reading came (front ++ back) next; rest = []; taken = taken + length (trace_text names back) })

  -- one line in front of lines that are read
  read_more : (g new : Came) (front back : List Event) (e : Event) (line taken : ℕ)
      → after (record { reading = reading g front line; rest = []; taken = taken }) (event_line names e) ≡ Ok (record { reading = reading new (front ++ e ∷ []) (line + 1); rest = []; taken = taken + length (event_line names e) })
      → IsRead new (front ++ e ∷ []) back (line + 1) (taken + length (event_line names e)) → IsRead g front (e ∷ back) line taken
  read_more g new front back e line taken first rest =
      let p : Progress = record { reading = reading g front line; rest = []; taken = taken } in
      let sizes = length-append (event_line names e) (trace_text names back) in
      let whole : front ++ e ∷ [] ++ back ≡ front ++ e ∷ back = append_assoc front (e ∷ []) back in
      let total : taken + length (event_line names e) + length (trace_text names back) ≡ taken + length (trace_text names (e ∷ back)) = omega arith in record {
        came = rest.came;
        next = rest.next;
        sound = rest.sound;
        all = subst (HaveAll rest.came) whole rest.all;
        read = after_append p (event_line names e) (trace_text names back) ∙ ap (λ x. x >>= λ s. after s (trace_text names back)) first ∙ rest.read
            ∙ (λ i. Ok (record { reading = reading rest.came (whole i) rest.next; rest = []; taken = total i }));
      }

  -- line by line
  all_read : (g : Came) (front back : List Event) (line taken : ℕ) → Sound g → HaveAll g front → Tells front → Lawful (front ++ back) → AllWritable back → length (front ++ back) ≤ MAX_EVENTS
      → taken + length (trace_text names back) ≤ MAX_INPUT → IsRead g front back line taken
  all_read g front [] line taken sound all tells lawful writable few fits_in =
      let whole = append-nil front in
      let count : taken ≡ taken + 0 = omega arith in record {
        came = g;
        next = line;
        sound = sound;
        all = subst (HaveAll g) (sym whole) all;
        read = after_none _ (omega arith) (omega arith) ∙ (λ i. Ok (record { reading = reading g (sym whole i) line; rest = []; taken = count i }));
      }
  all_read g front (e ∷ back) line taken sound all tells lawful writable few fits_in =
      let new = with_event g e in
      let w = writable.0 in
      let sizes = length-append (event_line names e) (trace_text names back) in
      let count = length-append front (e ∷ back) in
      let whole : front ++ e ∷ [] ++ back ≡ front ++ e ∷ back = append_assoc front (e ∷ []) back in
      let none = law_kept front back e tells lawful in
      let kept = (more_events g new front (keeps_event g e) all).0 in
      let rest = all_read new (front ++ e ∷ []) back (line + 1) (taken + length (event_line names e)) (sound_event g front line e w sound all (omega arith) none) (have_push new front e kept (has_event g e))
      (tells_push front e (follows_front front back e lawful).locks tells) (subst Lawful (sym whole) lawful) writable.1 (rw whole few) (omega arith) in
      read_more g new front back e line taken (line_after g front line e w sound all (omega arith) none taken (omega arith)) rest

  -- ---- the same trace

  -- a name is that of the place of its number
  name_kept : (all : List (List ℕ)) (came : List ℕ) (n : ℕ) → has came n ≡ true → name_at (spelled all came) (place came n) ≡ name_at all n
  name_kept all came n h = ap (λ o. unwrap_or o []) (slice_get-map (name_at all) came (place came n) ∙ ap (option_map (name_at all)) (place_at came n h))

  -- which is given out
  place_given : (all : List (List ℕ)) (came : List ℕ) (n : ℕ) → has came n ≡ true → place came n < length (spelled all came)
  place_given all came n h = let within = slice_get_within came (place came n) n (place_at came n h) in let size = length-map came (name_at all) in omega arith

  -- an operation keeps its word and its name
  operand_kept : (g : Came) (o : Op) → HasOperand g o → IsOperandNamed (came_names g) (op_with g o) × (word_of (op_with g o) ≡ word_of o) × (operand_name (came_names g) (op_with g o) ≡ operand_name names o)
  operand_kept g (Read x) h = (place_given names.vars g.vars x h, refl, name_kept names.vars g.vars x h)
  operand_kept g (Write x) h = (place_given names.vars g.vars x h, refl, name_kept names.vars g.vars x h)
  operand_kept g (Acquire l) h = (place_given names.locks g.locks l h, refl, name_kept names.locks g.locks l h)
  operand_kept g (Release l) h = (place_given names.locks g.locks l h, refl, name_kept names.locks g.locks l h)
  operand_kept g (Fork u) h = (place_given names.threads g.threads u h, refl, name_kept names.threads g.threads u h)
  operand_kept g (Join u) h = (place_given names.threads g.threads u h, refl, name_kept names.threads g.threads u h)

  -- an event says the same
  says_same : (g : Came) (e : Event) → HasAll g e → SaysSame names e (came_names g) (event_with g e)
  says_same g e h = let o = operand_kept g e.op h.operand in record {
    named = record { thread = place_given names.threads g.threads e.thread h.thread; operand = o.0 };
    thread = name_kept names.threads g.threads e.thread h.thread;
    word = o.1;
    operand = o.2;
    loc = refl;
  }

  -- what events name came, event by event
  have_at : (g : Came) (events : List Event) (i : ℕ) (e : Event) → HaveAll g events → slice_get events i ≡ Some e → HasAll g e
  have_at g [] i e all at = cc
  have_at g (d ∷ events) zero e all at = let same : d ≡ e = cc in subst (HasAll g) same all.0
  have_at g (d ∷ events) (suc i) e all at = have_at g events i e all.1 at

  -- all events say the same
  are_same : (g : Came) (events : List Event) → HaveAll g events → AreSame names events (came_names g) (map (event_with g) events)
  are_same g events all = record {
    size = length-map events (event_with g);
    each = λ i e f at read. let is : Some (event_with g e) ≡ Some f = sym (slice_get-map (event_with g) events i ∙ ap (option_map (event_with g)) at) ∙ read in
        let same : event_with g e ≡ f = cc in
        subst (SaysSame names e (came_names g)) same (says_same g e (have_at g events i e all at));
  }

  -- each can be written, one after the other
  all_writable : (events : List Event) → ((i : ℕ) (e : Event) → slice_get events i ≡ Some e → IsWritable names e) → AllWritable events
  all_writable [] each = tt
  all_writable (e ∷ events) each = (each 0 e refl, all_writable events (λ i f at. each (suc i) f at))

  -- no number came at first
  abbrev nothing : Came
  nothing = record { threads = []; locks = []; vars = [] }

  -- so the whole is read
  whole_read : (events : List Event) → HasText names events → (p : Progress) × ((after start (trace_text names events) >>= closed) ≡ Ok p) × AreSame names events p.reading.names p.reading.events
  whole_read events h =
      let sound : Sound nothing = record { threads = numbers_none (length names.threads); locks = numbers_none (length names.locks); vars = numbers_none (length names.vars) } in
      let read = all_read nothing [] events 1 0 sound tt tells_none h.lawful (all_writable events h.each) h.size (let short : length (trace_text names events) ≤ MAX_INPUT = h.short in omega arith) in
      let p : Progress = record { reading = reading read.came events read.next; rest = []; taken = 0 + length (trace_text names events) } in
      (p, ap (λ x. x >>= closed) read.read ∙ no_last_line p refl, are_same read.came events read.all)

-- the text of a trace is read as the same events with the same names
pub written_is_read : WrittenIsRead
written_is_read names events h = whole_read names h.threads h.locks h.vars events h
