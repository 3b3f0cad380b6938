-- The threads of a text, one after the other.
use Rattle.std.proofs.Common.{◌≡◌, ℕ, zero, suc, ◌+◌, ◌<◌, ◌≤◌, Bool, true, false, inl, inr, List, [], ◌∷◌, ◌++◌, length, drop, map, slice_get, nat_lt, Some, None, refl, sym, ap, ◌∙◌, subst, append-nil, append_assoc, arith}
use Rattle.std.proofs.lemmas.Bool.{cases_lt, cases_Bool}
use Rattle.std.proofs.Common.{lt-ltb}
use Rattle.std.specs.Prelude.{find}
use Rattle.sp_base.specs.declared.limits.TheConstants.{MAX_INSTRUCTIONS}
use Rattle.script_machine.specs.Line.{Line}
use Rattle.script_machine.specs.declared.fault.ScriptKind.TheVariants.{TooManyInstructions}
use Rattle.script_machine.specs.declared.flatten.Flat.{Flat}
use Rattle.script_machine.specs.ScriptText.{Numbered, Tables, Thread, spelling, flattened, at_line, ThreadText, threads_spelling, size_fault}
use Rattle.script_machine.specs.BodyAt.{capped, IsWholeBody, IsFlat}
use Rattle.script_machine.proofs.Determined.{parts}
use Rattle.script_machine.proofs.Unique.{threads_end}
use Rattle.script_machine.proofs.CappedSizes.{cap_one}
use Rattle.script_machine.proofs.Flats.{drop_past, get_front}
use Rattle.script_machine.proofs.Bodies.{drop_front}

-- the flattened bodies of threads
abbrev pub flats : Tables → List ThreadText → List (List Line)
flats names threads = map (λ t. flattened names t.body) threads

-- the threads that are left begin with the one whose body was read
pub record IsNext (names : Tables) (S : List Numbered) (cursor : ℕ) (write : Bool) (flat : Flat) (left : List ThreadText) : Type 0 where
  pub thread : ThreadText
  pub more : List ThreadText
  pub is : left ≡ thread ∷ more
  pub here : slice_get S cursor ≡ Some (at_line thread.line (Thread thread.name))
  pub whole : IsWholeBody names S write thread.body (threads_spelling more) flat

-- the body that the code read is that of the next thread
pub next_thread : (names : Tables) (S : List Numbered) (cursor : ℕ) (write : Bool) (flat : Flat) (left : List ThreadText) → cursor < length S → drop cursor S ≡ threads_spelling left
    → IsFlat names S (cursor + 1) write flat → IsNext names S cursor write flat left
next_thread names S cursor write flat [] less h f = absurd (some S cursor less h)
  where
    some : (xs : List Numbered) (k : ℕ) → k < length xs → drop k xs ≡ [] → ⊥
    some [] k l e = omega arith
    some (x ∷ xs) zero l e = cc
    some (x ∷ xs) (suc k) l e = some xs k (omega arith) e
next_thread names S cursor write flat (t ∷ ts) less h f =
    let here = get_front S cursor (at_line t.line (Thread t.name)) (spelling t.body ++ threads_spelling ts) h in
    let tail = parts _ _ _ _ (sym (drop_front S cursor _ here) ∙ h) in
    record { thread = t; more = ts; is = refl; here = here; whole = f t.body (threads_spelling ts) tail.1 (threads_end ts) }

-- a size that passes the limit with this thread
pub size_over : (names : Tables) (size count : ℕ) (t : ThreadText) (ts : List ThreadText) → count ≡ capped (length (flattened names t.body)) → MAX_INSTRUCTIONS < size + count
    → size_fault size (t ∷ ts) (flats names (t ∷ ts)) ≡ Some (record { line = t.line; kind = TooManyInstructions })
size_over names size count t ts is more =
    let over : MAX_INSTRUCTIONS < size + length (flattened names t.body) = elim (cap_one (length (flattened names t.body))) [ inl c ↦ omega (arith, c.0, is, more) | inr c ↦ omega (arith, c.1) ] in
    rw (lt-ltb MAX_INSTRUCTIONS (size + length (flattened names t.body)) over) refl

-- a number within the limit does not pass it
not_over : (n : ℕ) → n ≤ MAX_INSTRUCTIONS → nat_lt MAX_INSTRUCTIONS n ≡ false
not_over n h = elim (cases_Bool (nat_lt MAX_INSTRUCTIONS n)) [
  | inl t ↦ absurd (omega (arith, Rattle.std.proofs.Common.ltb→lt MAX_INSTRUCTIONS n (rw t tt)))
  | inr f ↦ f
]

-- a size that does not pass it with this thread
pub size_under : (names : Tables) (size count : ℕ) (t : ThreadText) (ts : List ThreadText) → count ≡ capped (length (flattened names t.body)) → size + count ≤ MAX_INSTRUCTIONS
    → size_fault size (t ∷ ts) (flats names (t ∷ ts)) ≡ size_fault (size + count) ts (flats names ts)
size_under names size count t ts is few =
    let same : count ≡ length (flattened names t.body) = elim (cap_one (length (flattened names t.body))) [ inl c ↦ is ∙ c.0 | inr c ↦ absurd (let e = c.0 in omega (arith, e, is, few)) ] in
    let under : size + length (flattened names t.body) ≤ MAX_INSTRUCTIONS = omega (arith, same, few) in
    rw (not_over (size + length (flattened names t.body)) under) (ap (λ k. size_fault (size + k) ts (flats names ts)) (sym same))

-- where the sizes pass, each is within the limit
pub record Passes (names : Tables) (size : ℕ) (t : ThreadText) (ts : List ThreadText) : Type 0 where
  pub few : size + length (flattened names t.body) ≤ MAX_INSTRUCTIONS
  pub more : size_fault (size + length (flattened names t.body)) ts (flats names ts) ≡ None

-- what no fault of the sizes tells of the next thread
pub passes : (names : Tables) (size : ℕ) (t : ThreadText) (ts : List ThreadText) → size_fault size (t ∷ ts) (flats names (t ∷ ts)) ≡ None → Passes names size t ts
passes names size t ts h = elim (cases_lt MAX_INSTRUCTIONS (size + length (flattened names t.body))) [
  | inl over ↦ absurd (let h' = rw (lt-ltb MAX_INSTRUCTIONS (size + length (flattened names t.body)) over) at h in cc)
  | inr under ↦ (let h' = rw (not_over (size + length (flattened names t.body)) under) at h in record { few = under; more = h' })
]

-- no thread is left
pub threads_past : (names : Tables) (S : List Numbered) (cursor : ℕ) (left : List ThreadText) → length S ≤ cursor → drop cursor S ≡ threads_spelling left → left ≡ []
threads_past names S cursor [] past h = refl
threads_past names S cursor (t ∷ ts) past h = absurd (let e = sym (drop_past S cursor past) ∙ h in cc)

-- the sizes so far
abbrev pub SizedTo : Tables → List Numbered → ℕ → ℕ → Type 0
SizedTo names S size cursor = (threads : List ThreadText) → S ≡ threads_spelling threads
    → (left : List ThreadText) × (drop cursor S ≡ threads_spelling left) × (size_fault 0 threads (flats names threads) ≡ size_fault size left (flats names left))

-- the sizes with one more thread
pub sized_next : (names : Tables) (S : List Numbered) (size cursor : ℕ) (flat : Flat) → cursor < length S → SizedTo names S size cursor → IsFlat names S (cursor + 1) false flat → size + flat.size ≤ MAX_INSTRUCTIONS
    → SizedTo names S (size + flat.size) flat.next
sized_next names S size cursor flat less so f few threads spelled =
    let (left, at, same) = so threads spelled in
    let n = next_thread names S cursor false flat left less at f in
    (n.more, n.whole.left, same ∙ (ap (λ r. size_fault size r (flats names r)) n.is ∙ size_under names size flat.size n.thread n.more n.whole.size few))

-- the first thread with which they pass the limit
pub sized_over : (names : Tables) (S : List Numbered) (size cursor line : ℕ) (flat : Flat) → cursor < length S → SizedTo names S size cursor → IsFlat names S (cursor + 1) false flat → MAX_INSTRUCTIONS < size + flat.size
    → (s : Rattle.script_machine.specs.ScriptText.Statement) → slice_get S cursor ≡ Some (at_line line s)
    → (threads : List ThreadText) → S ≡ threads_spelling threads → Some (record { line = line; kind = TooManyInstructions }) ≡ size_fault 0 threads (flats names threads)
sized_over names S size cursor line flat less so f more s there threads spelled =
    let (left, at, same) = so threads spelled in
    let n = next_thread names S cursor false flat left less at f in
    let both : at_line line s ≡ at_line n.thread.line (Thread n.thread.name) = (let h = n.here in let j = there in cc) in
    let lines : line ≡ n.thread.line = ap (λ x. x.line) both in
    sym (same ∙ (ap (λ r. size_fault size r (flats names r)) n.is ∙ (size_over names size flat.size n.thread n.more n.whole.size more ∙ ap (λ l. Some (record { line = l; kind = TooManyInstructions })) (sym lines))))

-- they never pass it
pub sized_all : (names : Tables) (S : List Numbered) (size cursor : ℕ) → length S ≤ cursor → SizedTo names S size cursor
    → (threads : List ThreadText) → S ≡ threads_spelling threads → None ≡ size_fault 0 threads (flats names threads)
sized_all names S size cursor past so threads spelled =
    let (left, at, same) = so threads spelled in
    sym (same ∙ ap (λ r. size_fault size r (flats names r)) (threads_past names S cursor left past at))

-- the bodies so far
abbrev pub WrittenTo : Tables → List Numbered → List (List Line) → ℕ → Type 0
WrittenTo names S bodies cursor = (threads : List ThreadText) → S ≡ threads_spelling threads → size_fault 0 threads (flats names threads) ≡ None
    → (left : List ThreadText) × (before : ℕ) × (drop cursor S ≡ threads_spelling left) × (size_fault before left (flats names left) ≡ None) × (flats names threads ≡ bodies ++ flats names left)

-- the bodies with one more thread
pub written_next : (names : Tables) (S : List Numbered) (bodies bodies' : List (List Line)) (cursor : ℕ) (flat : Flat) → cursor < length S → WrittenTo names S bodies cursor → IsFlat names S (cursor + 1) true flat
    → bodies' ≡ bodies ++ flat.lines.items ∷ [] → WrittenTo names S bodies' flat.next
written_next names S bodies bodies' cursor flat less so f pushed threads spelled none =
    let (left, before, at, passed, all) = so threads spelled none in
    let n = next_thread names S cursor true flat left less at f in
    let p = passes names before n.thread n.more (subst (λ r. size_fault before r (flats names r) ≡ None) n.is passed) in
    let few : length (flattened names n.thread.body) ≤ MAX_INSTRUCTIONS = (let h = p.few in omega arith) in
    let lines = n.whole.lines refl few in (
      n.more,
      before + length (flattened names n.thread.body),
      n.whole.left,
      p.more,
      all ∙ (ap (λ r. bodies ++ flats names r) n.is ∙ (ap (λ b. bodies ++ b ∷ flats names n.more) (sym lines) ∙ (sym (append_assoc bodies (flat.lines.items ∷ []) (flats names n.more)) ∙ ap (λ bs. bs ++ flats names n.more) (sym pushed)))),
    )

-- the bodies of all threads
pub written_all : (names : Tables) (S : List Numbered) (bodies : List (List Line)) (cursor : ℕ) → length S ≤ cursor → WrittenTo names S bodies cursor
    → (threads : List ThreadText) → S ≡ threads_spelling threads → size_fault 0 threads (flats names threads) ≡ None → bodies ≡ flats names threads
written_all names S bodies cursor past so threads spelled none =
    let (left, before, at, passed, all) = so threads spelled none in
    sym (all ∙ (ap (λ r. bodies ++ flats names r) (threads_past names S cursor left past at) ∙ append-nil bodies))

-- a search, one place on
pub find_next : (p : Numbered → Bool) (S : List Numbered) (k : ℕ) (x : Numbered) → slice_get S k ≡ Some x → p x ≡ false → find p S ≡ find p (drop k S) → find p S ≡ find p (drop (k + 1) S)
find_next p S k x here no' so = so ∙ (ap (find p) (drop_front S k x here) ∙ (rw no' refl))

-- the element in this place is the first that passes
pub find_here : (p : Numbered → Bool) (S : List Numbered) (k : ℕ) (x : Numbered) → slice_get S k ≡ Some x → p x ≡ true → find p S ≡ find p (drop k S) → find p S ≡ Some x
find_here p S k x here yes' so = so ∙ (ap (find p) (drop_front S k x here) ∙ (rw yes' refl))
