-- The tables of a text without a faulty line are within the limits.
use Rattle.std.specs.Prelude.{◌&&◌, ◌||◌, nat_le, nat_eq, is_none, sum_by}
use Rattle.std.proofs.Common.{◌≡◌, ℕ, zero, suc, ◌+◌, ◌<◌, ◌≤◌, Bool, true, false, inl, inr, List, [], ◌∷◌, ◌++◌, length, take, filter_map, Option, Some, None, Result, Ok, Err, option_to_list, refl, sym, ap, ◌∙◌, subst, append-nil, length-append, le-leb, arith}
use Rattle.std.proofs.lemmas.Bool.{cases_Bool, cases_lt}
use Rattle.std.proofs.lemmas.List.{take_all}
use Rattle.std.proofs.lemmas.List.Elements.{filter_map-append}
use Rattle.std.proofs.lemmas.List.Sums.{sum_by-cons}
use Rattle.sp_base.specs.declared.limits.TheConstants.{MAX_THREADS, MAX_LOCKS, MAX_VARS, MAX_INSTRUCTIONS}
use Rattle.script_machine.specs.declared.fault.ScriptKind.{ScriptKind}
use Rattle.script_machine.specs.declared.fault.ScriptKind.TheVariants.{NoThread, TooManyNames}
use Rattle.script_machine.specs.declared.tables.Block.{Block}
use Rattle.script_machine.specs.ScriptText.{Numbered, Tables, tables_of, Statement, Thread, Act, If, Repeat, Else, End, at_line, with_optional, is_new, is_among, is_too_many, thread_name, lock_name, variable_name, place_fault, thread_fault, statement_fault, fault_if, fault_of, or_else, IsClean, lines_of, words_say, words_of, statements_of, numbered_of, ThreadText, threads_spelling, flattened, size_fault}
use Rattle.script_machine.specs.BodyAt.{IsFew}
use Rattle.script_machine.proofs.ReadLemmas.{statements_more, fault_next, tables_next}
use Rattle.script_machine.proofs.Nesting.{or_none, if_none, drop_line}
use Rattle.script_machine.proofs.Formed.{thread_lines}
use Rattle.script_machine.proofs.ThreadsRead.{flats, passes}

-- a name that is not too many leaves the names within the limit
with_few : (o : Option (List ℕ)) (names : List (List ℕ)) (limit : ℕ) → (is_new o names && nat_le limit (length names)) ≡ false → length names ≤ limit → length (with_optional o names) ≤ limit
with_few None names limit h few = few
with_few (Some name) names limit h few = elim (cases_Bool (is_among name names)) [
  | inl t ↦ rw t few
  | inr t ↦
      (let below : nat_le limit (length names) ≡ false = (let h' = rw t at h in h') in
      let less : length names < limit = elim (cases_lt (length names) limit) [ inl l ↦ l | inr m ↦ absurd (let yes' = le-leb limit (length names) m in let clash : true ≡ false = sym yes' ∙ below in cc) ] in
      rw t (omega (arith, length-append names (name ∷ []), less)))
]

-- neither of two tests holds where none does
or_false : (a b : Bool) → (a || b) ≡ false → (a ≡ false) × (b ≡ false)
or_false false b h = (refl, h)
or_false true b h = absurd (cc)

-- the name of a `thread` line
named : Numbered → Option (List ℕ)
named s = thread_name s.says

pub record Limits (sofar : List Numbered) : Type 0 where
  pub threads : length (tables_of sofar).threads ≤ MAX_THREADS
  pub locks : length (tables_of sofar).locks ≤ MAX_LOCKS
  pub variables : length (tables_of sofar).variables ≤ MAX_VARS
  pub named : length (filter_map (λ s. thread_name s.says) sofar) ≡ length (tables_of sofar).threads

-- one more statement without a fault
limits_next : (sofar : List Numbered) → Limits sofar → (line : ℕ) (says : Statement) → statement_fault line (tables_of sofar) says ≡ None → Limits (sofar ++ at_line line says ∷ [])
limits_next sofar l line says h =
    let tables : Tables = tables_of sofar in
    let parts = or_none (place_fault line tables says) (fault_if (is_too_many tables says) line TooManyNames)
    (or_none (fault_if (is_none (thread_name says) && nat_eq (length tables.threads) 0) line NoThread) (or_else (place_fault line tables says) (fault_if (is_too_many tables says) line TooManyNames)) h).1 in
    let few = if_none (is_too_many tables says) line TooManyNames parts.1 in
    let one_of = is_new (thread_name says) tables.threads && nat_le MAX_THREADS (length tables.threads) in
    let two_of = is_new (lock_name says) tables.locks && nat_le MAX_LOCKS (length tables.locks) in
    let three_of = is_new (variable_name says) tables.variables && nat_le MAX_VARS (length tables.variables) in
    let first = or_false (one_of || two_of) three_of few in
    let second = or_false one_of two_of first.0 in
    let t = tables_next sofar (at_line line says) in
    record {
      threads = subst (λ x. length x.threads ≤ MAX_THREADS) (sym t) (with_few (thread_name says) (tables_of sofar).threads MAX_THREADS second.0 l.threads);
      locks = subst (λ x. length x.locks ≤ MAX_LOCKS) (sym t) (with_few (lock_name says) (tables_of sofar).locks MAX_LOCKS second.1 l.locks);
      variables = subst (λ x. length x.variables ≤ MAX_VARS) (sym t) (with_few (variable_name says) (tables_of sofar).variables MAX_VARS first.1 l.variables);
      named = subst (λ x. length (filter_map (λ s. thread_name s.says) (sofar ++ at_line line says ∷ [])) ≡ length x.threads) (sym t)
          (ap length (filter_map-append (λ s. thread_name s.says) sofar (at_line line says ∷ [])) ∙ one says parts.0);
    }
  where
    fresh : (blocks : List Block) (name : List ℕ) → thread_fault line (tables_of sofar) blocks name ≡ None → is_among name (tables_of sofar).threads ≡ false
    fresh [] name e = if_none _ _ _ e
    fresh (b ∷ bs) name e = absurd (cc)

    same : length (filter_map (λ s. thread_name s.says) sofar ++ []) ≡ length (tables_of sofar).threads
    same = ap length (append-nil (filter_map (λ s. thread_name s.says) sofar)) ∙ l.named

    one : (says : Statement) → place_fault line (tables_of sofar) says ≡ None
        → length (filter_map (λ s. thread_name s.says) sofar ++ filter_map (λ s. thread_name s.says) (at_line line says ∷ [])) ≡ length (with_optional (thread_name says) (tables_of sofar).threads)
    one (Thread name) e =
        let new = fresh (tables_of sofar).blocks name e in
        let left = length-append (filter_map (λ s. thread_name s.says) sofar) (name ∷ []) in
        let right = length-append (tables_of sofar).threads (name ∷ []) in
        let both = l.named in
        rw new (left ∙ (ap (λ k. k + 1) both ∙ sym right))
    one (Act action) e = same
    one (If n) e = same
    one (Repeat n) e = same
    one Else e = same
    one End e = same

-- so after any number of lines without a fault
limits_lines : (text : List ℕ) → IsClean text → (k : ℕ) → k ≤ length (lines_of text) → Limits (statements_of (take k (lines_of text)))
limits_lines text clean zero h = record { threads = omega arith; locks = omega arith; variables = omega arith; named = refl }
limits_lines text clean (suc k) h =
    let lines = lines_of text in
    let (line, rest, here) = drop_line lines k (omega arith) in
    let before = limits_lines text clean k (omega arith) in
    let none = sym (fault_next lines k line rest (tables_of (statements_of (take k lines))) here refl) ∙ clean k (omega arith) in
    let more = statements_more lines k line rest here in
    let next : k + 1 ≡ suc k = omega arith in
    subst (λ m. Limits (statements_of (take m lines))) next
    (subst Limits (sym more) (by (statements_of (take k lines)) (k + 1) before (words_say (words_of line)) none))
  where
    by : (sofar : List Numbered) (number : ℕ) → Limits sofar → (o : Option (Result Statement ScriptKind)) → fault_of number (tables_of sofar) o ≡ None → Limits (sofar ++ option_to_list (numbered_of number o))
    by sofar number l None h = subst Limits (sym (append-nil sofar)) l
    by sofar number l (Some (Ok says)) h = limits_next sofar l number says h
    by sofar number l (Some (Err kind)) h = absurd (cc)

-- so after all lines
pub limits : (text : List ℕ) → IsClean text → Limits (statements_of (lines_of text))
limits text clean =
    subst (λ xs. Limits (statements_of xs)) (take_all (length (lines_of text)) (lines_of text) (omega arith)) (limits_lines text clean (length (lines_of text)) (omega arith))

-- the names of a text are within the limits
pub few_names : (text : List ℕ) (tables : Tables) → IsClean text → tables ≡ tables_of (statements_of (lines_of text)) → IsFew tables
few_names text tables clean is =
    let l = limits text clean in
    subst IsFew (sym is) (record { threads = (let h = l.threads in omega arith); locks = (let h = l.locks in omega arith); variables = (let h = l.variables in omega arith) })

-- so are its threads
pub few_threads : (text : List ℕ) → IsClean text → (threads : List ThreadText) → statements_of (lines_of text) ≡ threads_spelling threads → length threads ≤ MAX_THREADS
few_threads text clean threads spelled =
    let l = limits text clean in
    let a = l.named in
    let b = l.threads in
    let c = ap (λ xs. length (filter_map (λ s. thread_name s.says) xs)) spelled in
    let d = thread_lines threads in
    omega (arith, a, b, c, d)

-- so is the sum of the sizes, where the sizes have no fault
pub sum_within : (names : Tables) (before : ℕ) (threads : List ThreadText) → before ≤ MAX_INSTRUCTIONS → size_fault before threads (flats names threads) ≡ None → before + sum_by length (flats names threads) ≤ MAX_INSTRUCTIONS
sum_within names before [] few h = omega arith
sum_within names before (t ∷ ts) few h =
    let p = passes names before t ts h in
    let ih = sum_within names (before + length (flattened names t.body)) ts p.few p.more in
    let c = sum_by-cons length (flattened names t.body) (flats names ts) in
    omega (arith, ih, c)
