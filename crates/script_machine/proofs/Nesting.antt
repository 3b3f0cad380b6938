-- Statements without a fault are nested: they spell threads, whose last one may have open blocks.
use Rattle.std.proofs.Common.{◌≡◌, ℕ, zero, suc, ◌+◌, ◌<◌, ◌≤◌, Bool, true, false, ◌⊎◌, inl, inr, List, [], ◌∷◌, ◌++◌, length, map, take, drop, Option, Some, None, Result, Ok, Err, option_to_list, refl, sym, ap, ◌∙◌, subst, append-nil, append_assoc, arith}
use Rattle.std.proofs.lemmas.List.Sums.{fold_push}
use Rattle.script_machine.specs.declared.tables.Block.{Block}
use Rattle.script_machine.specs.declared.fault.ScriptKind.{ScriptKind}
use Rattle.script_machine.specs.ScriptText.{Numbered, tables_of, Body, Empty, Simple, Choice, Either, Times, Statement, Thread, Act, If, Repeat, Else, End, spelling, at_line, ThreadText, threads_spelling, open_blocks, open_after, place_fault, statement_fault, fault_if, fault_of, or_else, IsClean, lines_of, words_say, words_of, statements_of, numbered_of}
use Rattle.std.proofs.lemmas.List.{take_all}
use Rattle.script_machine.proofs.ReadLemmas.{statements_more, fault_next}
use Rattle.script_machine.proofs.Bodies.{joined, spelling_joined}

-- an open block, with what stood before it in its own block
data Frame : Type 0 where
  AfterIf : ℕ → ℕ → Body → Frame
  AfterElse : ℕ → ℕ → Body → ℕ → Body → Frame
  AfterRepeat : ℕ → ℕ → Body → Frame

-- what stood before an open block
abbrev before_of : Frame → Body
before_of (AfterIf line n before) = before
before_of (AfterElse line n inside middle before) = before
before_of (AfterRepeat line n before) = before

-- the statements that opened it
abbrev opening : Frame → List Numbered
opening (AfterIf line n before) = at_line line (If n) ∷ []
opening (AfterElse line n inside middle before) = at_line line (If n) ∷ (spelling inside ++ at_line middle Else ∷ [])
opening (AfterRepeat line n before) = at_line line (Repeat n) ∷ []

-- the open block as the tables have it
abbrev block_of : Frame → Block
block_of (AfterIf line n before) = record { line = line; takes_else = true }
block_of (AfterElse line n inside middle before) = record { line = line; takes_else = false }
block_of (AfterRepeat line n before) = record { line = line; takes_else = false }

-- the statements of a body with open blocks
abbrev unwound : List Frame → Body → List Numbered
unwound [] body = spelling body
unwound (f ∷ fs) body = unwound fs (before_of f) ++ (opening f ++ spelling body)

-- more statements stand in the innermost block
unwound_more : (fs : List Frame) (b c : Body) → unwound fs b ++ spelling c ≡ unwound fs (joined b c)
unwound_more [] b c = sym (spelling_joined b c)
unwound_more (f ∷ fs) b c =
    append_assoc (unwound fs (before_of f)) (opening f ++ spelling b) (spelling c)
    ∙ ap (λ xs. unwound fs (before_of f) ++ xs) (append_assoc (opening f) (spelling b) (spelling c) ∙ ap (λ xs. opening f ++ xs) (sym (spelling_joined b c)))

-- an `else` parts the innermost block
unwound_else : (fs : List Frame) (line n middle : ℕ) (before b : Body)
    → unwound (AfterIf line n before ∷ fs) b ++ at_line middle Else ∷ [] ≡ unwound (AfterElse line n b middle before ∷ fs) Empty
unwound_else fs line n middle before b =
    append_assoc (unwound fs before) (at_line line (If n) ∷ spelling b) (at_line middle Else ∷ [])
    ∙ ap (λ xs. unwound fs before ++ (at_line line (If n) ∷ xs)) (sym (append-nil (spelling b ++ at_line middle Else ∷ [])))

-- an `end` closes the innermost block
unwound_end : (fs : List Frame) (f : Frame) (b : Body) (end : ℕ) → (c : Body) × (unwound (f ∷ fs) b ++ at_line end End ∷ [] ≡ unwound fs (joined (before_of f) c))
unwound_end fs (AfterIf line n before) b end =
    (Choice line n b end Empty, append_assoc (unwound fs before) (at_line line (If n) ∷ spelling b) (at_line end End ∷ []) ∙ unwound_more fs before (Choice line n b end Empty))
unwound_end fs (AfterElse line n inside middle before) b end = (
  Either line n inside middle b end Empty,
  append_assoc (unwound fs before) (opening (AfterElse line n inside middle before) ++ spelling b) (at_line end End ∷ [])
      ∙ ap (λ xs. unwound fs before ++ (at_line line (If n) ∷ xs))
      (ap (λ xs. xs ++ at_line end End ∷ []) (append_assoc (spelling inside) (at_line middle Else ∷ []) (spelling b))
      ∙ append_assoc (spelling inside) (at_line middle Else ∷ spelling b) (at_line end End ∷ []))
      ∙ unwound_more fs before (Either line n inside middle b end Empty),
)
unwound_end fs (AfterRepeat line n before) b end =
    (Times line n b end Empty, append_assoc (unwound fs before) (at_line line (Repeat n) ∷ spelling b) (at_line end End ∷ []) ∙ unwound_more fs before (Times line n b end Empty))

-- the statements so far: threads, and one more with open blocks
record Nested (sofar : List Numbered) : Type 0 where
  threads : List ThreadText
  line : ℕ
  name : List ℕ
  frames : List Frame
  body : Body
  spelled : sofar ≡ threads_spelling threads ++ (at_line line (Thread name) ∷ unwound frames body)
  blocks : open_blocks sofar ≡ map block_of frames

-- neither of two faults is there where none is
pub or_none : {X : Type 0} (a b : Option X) → or_else a b ≡ None → (a ≡ None) × (b ≡ None)
or_none None b h = (refl, h)
or_none (Some x) b h = absurd (cc)

-- a test whose fault is not there fails
pub if_none : (t : Bool) (line : ℕ) (kind : ScriptKind) → fault_if t line kind ≡ None → t ≡ false
if_none false line kind h = refl
if_none true line kind h = absurd (cc)

-- the open blocks after one more statement
blocks_next : (sofar : List Numbered) (s : Numbered) (blocks : List Block) → open_blocks sofar ≡ blocks → open_blocks (sofar ++ s ∷ []) ≡ open_after s.line s.says blocks
blocks_next sofar s blocks h = fold_push _ [] sofar s ∙ ap (open_after s.line s.says) h

-- one more thread is spelled behind the others
threads_push : (threads : List ThreadText) (t : ThreadText) → threads_spelling threads ++ (at_line t.line (Thread t.name) ∷ spelling t.body) ≡ threads_spelling (threads ++ t ∷ [])
threads_push [] t = sym (append-nil (at_line t.line (Thread t.name) ∷ spelling t.body))
threads_push (x ∷ xs) t = append_assoc (at_line x.line (Thread x.name) ∷ spelling x.body) (threads_spelling xs) (at_line t.line (Thread t.name) ∷ spelling t.body)
    ∙ ap (λ ys. (at_line x.line (Thread x.name) ∷ spelling x.body) ++ ys) (threads_push xs t)

-- statements behind a head, with one more
behind : (xs : List Numbered) (h : Numbered) (ys zs : List Numbered) (s : Numbered) → ys ++ s ∷ [] ≡ zs → (xs ++ (h ∷ ys)) ++ s ∷ [] ≡ xs ++ (h ∷ zs)
behind xs h ys zs s e = append_assoc xs (h ∷ ys) (s ∷ []) ∙ ap (λ ws. xs ++ (h ∷ ws)) e

-- one more statement without a fault
nested_next : (sofar : List Numbered) (n : Nested sofar) (line : ℕ) (says : Statement) → place_fault line (tables_of sofar) says ≡ None → Nested (sofar ++ at_line line says ∷ [])
nested_next sofar n line (Act action) h = record {
  threads = n.threads;
  line = n.line;
  name = n.name;
  frames = n.frames;
  body = joined n.body (Simple line action Empty);
  spelled = ap (λ xs. xs ++ at_line line (Act action) ∷ []) n.spelled ∙ behind _ _ _ _ _ (unwound_more n.frames n.body (Simple line action Empty));
  blocks = blocks_next sofar (at_line line (Act action)) _ n.blocks;
}
nested_next sofar n line (If k) h = record {
  threads = n.threads;
  line = n.line;
  name = n.name;
  frames = AfterIf line k n.body ∷ n.frames;
  body = Empty;
  spelled = ap (λ xs. xs ++ at_line line (If k) ∷ []) n.spelled ∙ behind _ _ _ _ _ refl;
  blocks = blocks_next sofar (at_line line (If k)) _ n.blocks;
}
nested_next sofar n line (Repeat k) h = record {
  threads = n.threads;
  line = n.line;
  name = n.name;
  frames = AfterRepeat line k n.body ∷ n.frames;
  body = Empty;
  spelled = ap (λ xs. xs ++ at_line line (Repeat k) ∷ []) n.spelled ∙ behind _ _ _ _ _ refl;
  blocks = blocks_next sofar (at_line line (Repeat k)) _ n.blocks;
}
nested_next sofar n line (Thread name) h = go n.frames refl
  where
    go : (fs : List Frame) → n.frames ≡ fs → Nested (sofar ++ at_line line (Thread name) ∷ [])
    go [] e = record {
      threads = n.threads ++ record { line = n.line; name = n.name; body = n.body } ∷ [];
      line = line;
      name = name;
      frames = [];
      body = Empty;
      spelled = ap (λ xs. xs ++ at_line line (Thread name) ∷ []) (n.spelled ∙ ap (λ fs. threads_spelling n.threads ++ (at_line n.line (Thread n.name) ∷ unwound fs n.body)) e
          ∙ threads_push n.threads (record { line = n.line; name = n.name; body = n.body }));
      blocks = blocks_next sofar (at_line line (Thread name)) [] (n.blocks ∙ ap (map block_of) e);
    }
    go (f ∷ fs) e = absurd (let opened = n.blocks ∙ ap (map block_of) e in let h' = rw opened at h in cc)
nested_next sofar n line Else h = go n.frames refl
  where
    go : (fs : List Frame) → n.frames ≡ fs → Nested (sofar ++ at_line line Else ∷ [])
    go [] e = absurd (let opened = n.blocks ∙ ap (map block_of) e in let h' = rw opened at h in cc)
    go (AfterIf l k before ∷ fs) e = record {
      threads = n.threads;
      line = n.line;
      name = n.name;
      frames = AfterElse l k n.body line before ∷ fs;
      body = Empty;
      spelled = ap (λ xs. xs ++ at_line line Else ∷ []) (n.spelled ∙ ap (λ gs. threads_spelling n.threads ++ (at_line n.line (Thread n.name) ∷ unwound gs n.body)) e)
          ∙ behind _ _ _ _ _ (unwound_else fs l k line before n.body);
      blocks = blocks_next sofar (at_line line Else) _ (n.blocks ∙ ap (map block_of) e);
    }
    go (AfterElse l k inside middle before ∷ fs) e = absurd (let opened = n.blocks ∙ ap (map block_of) e in let h' = rw opened at h in cc)
    go (AfterRepeat l k before ∷ fs) e = absurd (let opened = n.blocks ∙ ap (map block_of) e in let h' = rw opened at h in cc)
nested_next sofar n line End h = go n.frames refl
  where
    go : (fs : List Frame) → n.frames ≡ fs → Nested (sofar ++ at_line line End ∷ [])
    go [] e = absurd (let opened = n.blocks ∙ ap (map block_of) e in let h' = rw opened at h in cc)
    go (f ∷ fs) e =
        let (c, closed) = unwound_end fs f n.body line in
        record {
          threads = n.threads;
          line = n.line;
          name = n.name;
          frames = fs;
          body = joined (before_of f) c;
          spelled = ap (λ xs. xs ++ at_line line End ∷ []) (n.spelled ∙ ap (λ gs. threads_spelling n.threads ++ (at_line n.line (Thread n.name) ∷ unwound gs n.body)) e)
              ∙ behind _ _ _ _ _ closed;
          blocks = blocks_next sofar (at_line line End) _ (n.blocks ∙ ap (map block_of) e);
        }

-- with no block open they spell threads
nested_threads : (sofar : List Numbered) → Nested sofar → open_blocks sofar ≡ [] → (threads : List ThreadText) × (sofar ≡ threads_spelling threads)
nested_threads sofar n none = go n.frames refl
  where
    go : (fs : List Frame) → n.frames ≡ fs → (threads : List ThreadText) × (sofar ≡ threads_spelling threads)
    go [] e = (
      n.threads ++ record { line = n.line; name = n.name; body = n.body } ∷ [],
      n.spelled ∙ ap (λ fs. threads_spelling n.threads ++ (at_line n.line (Thread n.name) ∷ unwound fs n.body)) e ∙ threads_push n.threads (record { line = n.line; name = n.name; body = n.body }),
    )
    go (f ∷ fs) e = absurd (let some = sym (n.blocks ∙ ap (map block_of) e) ∙ none in cc)

-- nothing yet, or threads
abbrev Begun : List Numbered → Type 0
Begun sofar = (sofar ≡ []) ⊎ Nested sofar

-- one more statement without a fault
begun_next : (sofar : List Numbered) → Begun sofar → (line : ℕ) (says : Statement) → statement_fault line (tables_of sofar) says ≡ None → Begun (sofar ++ at_line line says ∷ [])
begun_next sofar (inr n) line says h = inr (nested_next sofar n line says (or_none _ _ (or_none _ _ h).1).0)
begun_next sofar (inl none) line (Thread name) h = inr (record {
  threads = [];
  line = line;
  name = name;
  frames = [];
  body = Empty;
  spelled = ap (λ xs. xs ++ at_line line (Thread name) ∷ []) none;
  blocks = blocks_next sofar (at_line line (Thread name)) [] (ap open_blocks none);
})
begun_next sofar (inl none) line says h = absurd (let h' = subst (λ xs. statement_fault line (tables_of xs) says ≡ None) none h in cc)

-- the lines from a place on begin with a line
pub drop_line : (lines : List (List ℕ)) (k : ℕ) → k < length lines → (line : List ℕ) × (rest : List (List ℕ)) × (drop k lines ≡ line ∷ rest)
drop_line [] k h = absurd (omega arith)
drop_line (x ∷ xs) zero h = (x, xs, refl)
drop_line (x ∷ xs) (suc k) h = drop_line xs k (omega arith)

-- so after any number of lines without a fault
begun_lines : (text : List ℕ) → IsClean text → (k : ℕ) → k ≤ length (lines_of text) → Begun (statements_of (take k (lines_of text)))
begun_lines text clean zero h = inl refl
begun_lines text clean (suc k) h =
    let lines = lines_of text in
    let (line, rest, here) = drop_line lines k (omega arith) in
    let before = begun_lines text clean k (omega arith) in
    let none = sym (fault_next lines k line rest (tables_of (statements_of (take k lines))) here refl) ∙ clean k (omega arith) in
    let more = statements_more lines k line rest here in
    let next : k + 1 ≡ suc k = omega arith in
    subst (λ m. Begun (statements_of (take m lines))) next
    (subst Begun (sym more) (by (statements_of (take k lines)) (k + 1) before (words_say (words_of line)) none))
  where
    by : (sofar : List Numbered) (number : ℕ) → Begun sofar → (o : Option (Result Statement ScriptKind)) → fault_of number (tables_of sofar) o ≡ None → Begun (sofar ++ option_to_list (numbered_of number o))
    by sofar number begun None h = subst Begun (sym (append-nil sofar)) begun
    by sofar number begun (Some (Ok says)) h = begun_next sofar begun number says h
    by sofar number begun (Some (Err kind)) h = absurd (cc)

-- a text whose lines have no fault and that leaves no block open spells threads
pub clean_spells : (text : List ℕ) → IsClean text → open_blocks (statements_of (lines_of text)) ≡ [] → (threads : List ThreadText) × (statements_of (lines_of text) ≡ threads_spelling threads)
clean_spells text clean closed =
    let lines = lines_of text in
    let all : take (length lines) lines ≡ lines = take_all (length lines) lines (omega arith) in
    let begun = subst (λ xs. Begun (statements_of xs)) all (begun_lines text clean (length lines) (omega arith)) in
    elim begun [
      | inl none ↦ ([], none)
      | inr n ↦ nested_threads (statements_of lines) n closed
    ]
