-- The operands of a script of a text are in range.
use Rattle.std.specs.Prelude.{bytes_eq, not}
use Rattle.std.proofs.Common.{◌≡◌, ℕ, zero, suc, ◌+◌, ◌<◌, ◌≤◌, true, false, cond, inl, inr, List, [], ◌∷◌, ◌++◌, length, map, slice_get, get_or, fold, filter_map, Option, Some, None, refl, sym, ap, ◌∙◌, subst, length-append, arith}
use Rattle.std.proofs.lemmas.List.Elements.{filter_map-append}
use Rattle.std.proofs.lemmas.List.{length-map}
use Rattle.std.proofs.lemmas.List.Folds.{list_any-append}
use Rattle.std.proofs.lemmas.Slice.Eq.{bytes_eq-Decides}
use Rattle.std.proofs.lemmas.Bool.{cases_Bool, not-false}
use Rattle.trace_laws.specs.Names.{same_name}
use Rattle.trace_laws.proofs.NameLemmas.{any_at}
use Rattle.script_machine.specs.declared.instruction.Instruction.{Instruction}
use Rattle.script_machine.specs.declared.instruction.Instruction.TheVariants as instruction
use Rattle.script_machine.specs.Line.{Line}
use Rattle.script_machine.specs.declared.fault.ScriptKind.TheVariants.{UnknownThread}
use Rattle.script_machine.specs.Machine.{Script, body, InRange, IsWellFormed}
use Rattle.script_machine.specs.ScriptText.{Numbered, Tables, Body, Empty, Simple, Choice, Either, Times, Statement, Thread, Act, Else, End, Action, Lock, Unlock, Read, Write, Fork, Join, WriteNumber, Add, spelling, at_line, flattened, instruction_of, number_in, times, ThreadText, threads_spelling, Scripts, statements_of, lines_of, tables_of, thread_name, lock_name, variable_name, other_name, names_in, is_among, is_new, open_fault, open_blocks, unknown_fault}
use Rattle.script_machine.proofs.OneFork.{Among, among_split, among_left, among_right, among_later, among_times, or_second, on_none, find_none}
use Rattle.script_machine.proofs.RunsAreLawful.{body_there}

-- a name is equal to itself
bytes_itself : (xs : List ℕ) → bytes_eq xs xs ≡ true
bytes_itself xs = (bytes_eq-Decides xs xs).1 refl

-- the names with one more, where it is new
abbrev with_one : List (List ℕ) → List ℕ → List (List ℕ)
with_one seen name = cond (is_among name seen) seen (seen ++ name ∷ [])

-- a name stays, and each name comes
one_keeps : (seen : List (List ℕ)) (x n : List ℕ) → is_among n seen ≡ true → is_among n (with_one seen x) ≡ true
one_keeps seen x n h = elim (cases_Bool (is_among x seen)) [
  | inl t ↦ rw t h
  | inr t ↦ rw t (list_any-append (bytes_eq n) seen (x ∷ []) ∙ (rw h refl))
]

-- a name that is added is there
one_brings : (seen : List (List ℕ)) (n : List ℕ) → is_among n (with_one seen n) ≡ true
one_brings seen n = elim (cases_Bool (is_among n seen)) [
  | inl t ↦ rw t t
  | inr t ↦ rw t (list_any-append (bytes_eq n) seen (n ∷ []) ∙ (rw (t, bytes_itself n) refl))
]

-- a name stays while more are added
all_keep : (names seen : List (List ℕ)) (n : List ℕ) → is_among n seen ≡ true → is_among n (fold with_one seen names) ≡ true
all_keep [] seen n h = h
all_keep (x ∷ xs) seen n h = all_keep xs (with_one seen x) n (one_keeps seen x n h)

-- each name that is added is there in the end
all_come : (names seen : List (List ℕ)) (n : List ℕ) → Among names n → is_among n (fold with_one seen names) ≡ true
all_come [] seen n (k, h) = absurd (cc)
all_come (x ∷ xs) seen n (zero, h) = let same : x ≡ n = cc in all_keep xs (with_one seen x) n (subst (λ y. is_among n (with_one seen y) ≡ true) (sym same) (one_brings seen n))
all_come (x ∷ xs) seen n (suc k, h) = all_come xs (with_one seen x) n (k, h)

-- there are no more names than were added
few_names : (names seen : List (List ℕ)) → length (fold with_one seen names) ≤ length seen + length names
few_names [] seen = omega arith
few_names (x ∷ xs) seen =
    let ih = few_names xs (with_one seen x) in
    let one : length (with_one seen x) ≤ length seen + 1 = elim (cases_Bool (is_among x seen)) [
      | inl t ↦ rw t (omega arith)
      | inr t ↦ rw t (omega (arith, length-append seen (x ∷ [])))
    ] in
    omega arith

-- a name that is there has a number below the count
pub number_below : (names : List (List ℕ)) (name : List ℕ) → is_among name names ≡ true → number_in names name < length names
number_below names name h = any_at (same_name name) names h

-- the name of a statement is among the names that are added
map_among : (name_of : Statement → Option (List ℕ)) (xs : List Numbered) (s : Numbered) (n : List ℕ) → Among xs s → name_of s.says ≡ Some n → Among (filter_map (λ x. name_of x.says) xs) n
map_among name_of [] s n (k, h) e = absurd (cc)
map_among name_of (x ∷ xs) s n (zero, h) e =
    let same : x ≡ s = cc in
    let here : name_of x.says ≡ Some n = ap (λ y. name_of y.says) same ∙ e in
    rw here (0, refl)
map_among name_of (x ∷ xs) s n (suc k, h) e = later (name_of x.says) (map_among name_of xs s n (k, h) e)
  where
    later : (o : Option (List ℕ)) → Among (filter_map (λ y. name_of y.says) xs) n → Among (Rattle.std.specs.List.cons_option o (filter_map (λ y. name_of y.says) xs)) n
    later None a = a
    later (Some y) a = (suc a.0, a.1)

-- a named thing is among the names of its kind
pub name_there : (name_of : Statement → Option (List ℕ)) (xs : List Numbered) (s : Numbered) (n : List ℕ) → Among xs s → name_of s.says ≡ Some n → is_among n (names_in name_of xs) ≡ true
name_there name_of xs s n a e = all_come (filter_map (λ x. name_of x.says) xs) [] n (map_among name_of xs s n a e)

-- so it has a number below the count of its kind
pub name_below : (name_of : Statement → Option (List ℕ)) (xs : List Numbered) (s : Numbered) (n : List ℕ) → Among xs s → name_of s.says ≡ Some n → number_in (names_in name_of xs) n < length (names_in name_of xs)
name_below name_of xs s n a e = number_below (names_in name_of xs) n (name_there name_of xs s n a e)

-- bodies name no thread of their own
no_threads : (b : Body) → filter_map (λ s. thread_name s.says) (spelling b) ≡ []
no_threads Empty = refl
no_threads (Simple l a rest) = no_threads rest
no_threads (Choice l n b e rest) = filter_map-append _ (spelling b) (at_line e End ∷ spelling rest) ∙ (rw (no_threads b) (no_threads rest))
no_threads (Either l n b m o e rest) =
    filter_map-append _ (spelling b) (at_line m Else ∷ (spelling o ++ (at_line e End ∷ spelling rest)))
    ∙ (rw (no_threads b) (filter_map-append _ (spelling o) (at_line e End ∷ spelling rest) ∙ (rw (no_threads o) (no_threads rest))))
no_threads (Times l n b e rest) = filter_map-append _ (spelling b) (at_line e End ∷ spelling rest) ∙ (rw (no_threads b) (no_threads rest))

-- threads have as many `thread` lines as there are threads
pub thread_lines : (ts : List ThreadText) → length (filter_map (λ s. thread_name s.says) (threads_spelling ts)) ≡ length ts
thread_lines [] = refl
thread_lines (t ∷ ts) = ap suc (ap length (filter_map-append _ (spelling t.body) (threads_spelling ts)) ∙ (rw (no_threads t.body) (thread_lines ts)))

-- what holds of jumps and of the instruction of each action holds of each flattened line
all_flat : (names : Tables) (P : Instruction → Type 0) → ((n k : ℕ) → P (instruction.If n k)) → ((k : ℕ) → P (instruction.Jump k)) → (b : Body)
    → ((l : ℕ) (a : Action) → Among (spelling b) (at_line l (Act a)) → P (instruction_of names a)) → (line : Line) → Among (flattened names b) line → P line.instruction
all_flat names P ifs jumps Empty acts line (k, h) = absurd (cc)
all_flat names P ifs jumps (Simple l a rest) acts line (zero, h) = (let same : record { instruction = instruction_of names a; number = l } ≡ line = cc in subst (λ x. P x.instruction) same (acts l a (0, refl)))
all_flat names P ifs jumps (Simple l a rest) acts line (suc k, h) = all_flat names P ifs jumps rest (λ m c x. acts m c (among_later _ _ _ x)) line (k, h)
all_flat names P ifs jumps (Choice l n b e rest) acts line (zero, h) = (let same : record { instruction = instruction.If n (length (flattened names b)); number = l } ≡ line = cc in subst (λ x. P x.instruction) same (ifs n _))
all_flat names P ifs jumps (Choice l n b e rest) acts line (suc k, h) = elim (among_split (flattened names b) (flattened names rest) line (k, h)) [
  | inl x ↦ all_flat names P ifs jumps b (λ m c y. acts m c (among_later _ _ _ (among_left _ _ _ y))) line x
  | inr x ↦ all_flat names P ifs jumps rest (λ m c y. acts m c (among_later _ _ _ (among_right (spelling b) _ _ (among_later _ _ _ y)))) line x
]
all_flat names P ifs jumps (Either l n b m o e rest) acts line (zero, h) = (let same : record { instruction = instruction.If n (length (flattened names b) + 1); number = l } ≡ line = cc in subst (λ x. P x.instruction) same (ifs n _))
all_flat names P ifs jumps (Either l n b m o e rest) acts line (suc k, h) =
    elim (among_split (flattened names b) (record { instruction = instruction.Jump (length (flattened names o)); number = m } ∷ (flattened names o ++ flattened names rest)) line (k, h)) [
      | inl x ↦ all_flat names P ifs jumps b (λ i c y. acts i c (among_later _ _ _ (among_left _ _ _ y))) line x
      | inr x ↦ other x (λ y. all_flat names P ifs jumps o (λ i c z. acts i c (among_later _ _ _ (among_right (spelling b) _ _ (among_later _ _ _ (among_left _ _ _ z))))) line y)
          (λ y. all_flat names P ifs jumps rest (λ i c z. acts i c (among_later _ _ _ (among_right (spelling b) _ _ (among_later _ _ _ (among_right (spelling o) _ _ (among_later _ _ _ z)))))) line y)
    ]
  where
    other : Among (record { instruction = instruction.Jump (length (flattened names o)); number = m } ∷ (flattened names o ++ flattened names rest)) line
        → (Among (flattened names o) line → P line.instruction) → (Among (flattened names rest) line → P line.instruction) → P line.instruction
    other (zero, h) p q = (let same : record { instruction = instruction.Jump (length (flattened names o)); number = m } ≡ line = cc in subst (λ x. P x.instruction) same (jumps _))
    other (suc k, h) p q = elim (among_split (flattened names o) (flattened names rest) line (k, h)) [ inl x ↦ p x | inr x ↦ q x ]
all_flat names P ifs jumps (Times l n b e rest) acts line a = elim (among_split (times n (flattened names b)) (flattened names rest) line a) [
  | inl x ↦ all_flat names P ifs jumps b (λ m c y. acts m c (among_later _ _ _ (among_left _ _ _ y))) line (among_times n (flattened names b) line x)
  | inr x ↦ all_flat names P ifs jumps rest (λ m c y. acts m c (among_later _ _ _ (among_right (spelling b) _ _ (among_later _ _ _ y)))) line x
]

-- what holds of the instructions of all actions holds of all lines of a thread
thread_flat : (names : Tables) (P : Instruction → Type 0) → ((n k : ℕ) → P (instruction.If n k)) → ((k : ℕ) → P (instruction.Jump k)) → (ts : List ThreadText)
    → ((l : ℕ) (a : Action) → Among (threads_spelling ts) (at_line l (Act a)) → P (instruction_of names a)) → (t : ℕ) (lines : List Line) → slice_get (map (λ x. flattened names x.body) ts) t ≡ Some lines
    → (line : Line) → Among lines line → P line.instruction
thread_flat names P ifs jumps [] acts t lines h line a = absurd (cc)
thread_flat names P ifs jumps (x ∷ xs) acts zero lines h line a =
    let same : flattened names x.body ≡ lines = cc in
    all_flat names P ifs jumps x.body (λ l c y. acts l c (among_left (at_line x.line (Thread x.name) ∷ spelling x.body) (threads_spelling xs) _ (among_later _ _ _ y))) line (subst (λ ys. Among ys line) (sym same) a)
thread_flat names P ifs jumps (x ∷ xs) acts (suc t) lines h line a =
    thread_flat names P ifs jumps xs (λ l c y. acts l c (among_right (at_line x.line (Thread x.name) ∷ spelling x.body) (threads_spelling xs) _ y)) t lines h line a

-- a thread that is forked or joined is among the threads, where none is unknown
pub known_name : (statements : List Numbered) (s : Numbered) (n : List ℕ) → unknown_fault statements ≡ None → Among statements s → other_name s.says ≡ Some n → is_among n (names_in thread_name statements) ≡ true
known_name statements s n none a e =
    let none' = find_none _ statements s (on_none UnknownThread _ none) a in
    let old : not (is_among n (names_in thread_name statements)) ≡ false = sym (ap (λ o. is_new o (names_in thread_name statements)) e) ∙ none' in
    not-false _ old

-- the operands of a script of a text are in range
pub well_formed : (text : List ℕ) (script : Script) → Scripts text script → IsWellFormed script
well_formed text script s t less k d inside =
    thread_flat tables (InRange script) (λ n c. tt) (λ c. tt) s.threads acts t (body script t)
    (ap (λ bs. slice_get bs t) (sym s.spells.bodies) ∙ there) (get_or (body script t) k d) (k, at_k)
  where
    statements : List Numbered
    statements = statements_of (lines_of text)

    tables : Tables
    tables = tables_of (statements_of (lines_of text))

    here : (xs : List Line) (k : ℕ) (d : Line) → k < length xs → slice_get xs k ≡ Some (get_or xs k d)
    here [] k d h = absurd (omega arith)
    here (x ∷ xs) zero d h = refl
    here (x ∷ xs) (suc k) d h = here xs k d (omega arith)

    at_k : slice_get (body script t) k ≡ Some (get_or (body script t) k d)
    at_k = here (body script t) k d inside

    there : slice_get script.bodies t ≡ Some (body script t)
    there = body_there script.bodies t k (get_or (body script t) k d) at_k

    threads : length (names_in thread_name statements) ≤ length script.bodies
    threads =
        let few = few_names (filter_map (λ x. thread_name x.says) (statements_of (lines_of text))) [] in
        let spelled = ap (λ xs. length (filter_map (λ x. thread_name x.says) xs)) s.spells.spelled in
        let lines = thread_lines s.threads in
        let bodies = ap length s.spells.bodies in
        let maps = length-map s.threads (λ x. flattened (tables_of (statements_of (lines_of text))) x.body) in
        omega arith

    unknown : unknown_fault (statements_of (lines_of text)) ≡ None
    unknown = or_second (open_fault (open_blocks (statements_of (lines_of text)))) (unknown_fault (statements_of (lines_of text))) s.ends

    thread_below : (n : List ℕ) (says : Numbered) → Among (statements_of (lines_of text)) says → other_name says.says ≡ Some n → number_in (names_in thread_name (statements_of (lines_of text))) n < length script.bodies
    thread_below n says a e =
        let below = number_below (names_in thread_name (statements_of (lines_of text))) n (known_name (statements_of (lines_of text)) says n unknown a e) in
        let few = threads in
        omega arith

    acts : (l : ℕ) (a : Action) → Among (threads_spelling s.threads) (at_line l (Act a)) → InRange script (instruction_of tables a)
    acts l a among = by a (subst (λ xs. Among xs (at_line l (Act a))) (sym s.spells.spelled) among)
      where
        by : (a : Action) → Among (statements_of (lines_of text)) (at_line l (Act a)) → InRange script (instruction_of (tables_of (statements_of (lines_of text))) a)
        by (Lock name) x = subst (λ k. number_in (names_in lock_name (statements_of (lines_of text))) name < k) (sym s.spells.locks) (name_below lock_name _ _ name x refl)
        by (Unlock name) x = subst (λ k. number_in (names_in lock_name (statements_of (lines_of text))) name < k) (sym s.spells.locks) (name_below lock_name _ _ name x refl)
        by (Read name) x = subst (λ k. number_in (names_in variable_name (statements_of (lines_of text))) name < k) (sym s.spells.variables) (name_below variable_name _ _ name x refl)
        by (Write name) x = subst (λ k. number_in (names_in variable_name (statements_of (lines_of text))) name < k) (sym s.spells.variables) (name_below variable_name _ _ name x refl)
        by (WriteNumber name n) x = subst (λ k. number_in (names_in variable_name (statements_of (lines_of text))) name < k) (sym s.spells.variables) (name_below variable_name _ _ name x refl)
        by (Add n) x = tt
        by (Fork name) x = thread_below name _ x refl
        by (Join name) x = thread_below name _ x refl
