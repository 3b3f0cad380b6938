-- Names that have numbers, and that those of a text's statements have.
use Rattle.std.proofs.Common.{◌≡◌, ℕ, zero, suc, ◌<◌, ◌≤◌, true, false, cond, inl, inr, List, [], ◌∷◌, length, get_or, slice_get, Option, Some, None, refl, sym, ap, subst, arith}
use Rattle.std.proofs.lemmas.List.Elements.{All-head, All-tail}
use Rattle.std.proofs.lemmas.Bool.{cases_Bool}
use Rattle.trace_laws.specs.Names.{same_name}
use Rattle.trace_laws.proofs.NameLemmas.{none_at}
use Rattle.sp_base.specs.declared.limits.TheConstants.{MAX_THREADS}
use Rattle.script_machine.specs.ScriptText.{Numbered, Statement, Tables, lines_of, statements_of, tables_of, names_in, thread_name, lock_name, variable_name, other_name, number_in, is_among, with_optional, is_new, unknown_fault}
use Rattle.script_machine.specs.Known.{IsKnown, AreKnown}
use Rattle.script_machine.proofs.OneFork.{Among}
use Rattle.script_machine.proofs.Formed.{number_below, name_there, known_name}
use Rattle.script_machine.proofs.ResolvedLemmas.{read_there}

-- what is known of all statements is known of the one at a place
pub known_at : (names : Tables) (statements : List Numbered) (k : ℕ) (s : Numbered) → AreKnown names statements → slice_get statements k ≡ Some s → IsKnown names s.says
known_at names [] k s all h = absurd (cc)
known_at names (x ∷ xs) zero s all h = let same : x ≡ s = cc in subst (λ y. IsKnown names y.says) same (All-head (λ y. IsKnown names y.says) x xs all)
known_at names (x ∷ xs) (suc k) s all h = known_at names xs k s (All-tail (λ y. IsKnown names y.says) x xs all) h

-- a statement's name of a kind is among the names of that kind
not_new : (name_of : Statement → Option (List ℕ)) (xs : List Numbered) (s : Numbered) → Among xs s → is_new (name_of s.says) (names_in name_of xs) ≡ false
not_new name_of xs s a = go (name_of s.says) refl
  where
    go : (o : Option (List ℕ)) → name_of s.says ≡ o → is_new o (names_in name_of xs) ≡ false
    go None e = refl
    go (Some n) e = rw (name_there name_of xs s n a e) refl

-- the locks and variables of a text's statements have numbers
pub names_known : (text : List ℕ) (names : Tables) → names ≡ tables_of (statements_of (lines_of text)) → (S : List Numbered) → S ≡ statements_of (lines_of text) → AreKnown names S
names_known text names tabs S spelled = subst (λ t. AreKnown t S) (sym tabs) (subst (AreKnown (tables_of (statements_of (lines_of text)))) (sym spelled) all)
  where
    all : AreKnown (tables_of (statements_of (lines_of text))) (statements_of (lines_of text))
    all k d h =
        let xs : List Numbered = statements_of (lines_of text) in
        let a : Among xs (get_or xs k d) = (k, read_there xs k d h) in
        record { lock = not_new lock_name xs (get_or xs k d) a; variable = not_new variable_name xs (get_or xs k d) a }

-- a thread that is forked or joined has a number within the limit, where none is unknown
pub other_low : (xs : List Numbered) (s : Numbered) (n : List ℕ) → Among xs s → unknown_fault xs ≡ None → length (names_in thread_name xs) ≤ MAX_THREADS → other_name s.says ≡ Some n
    → number_in (names_in thread_name xs) n < MAX_THREADS
other_low xs s n a none few e = let below = number_below (names_in thread_name xs) n (known_name xs s n none a e) in omega arith

-- a number below the count is that of a name that is there
pub low_is_known : (names : List (List ℕ)) (name : List ℕ) → number_in names name < length names → is_among name names ≡ true
low_is_known names name low = elim (cases_Bool (is_among name names)) [
  | inl t ↦ t
  | inr f ↦ absurd (let all = none_at (same_name name) names f in omega arith)
]

-- the answer for a name whose number is below the count
pub known_answer : (names : List (List ℕ)) (name : List ℕ) (n : ℕ) → n ≡ number_in names name → n < length names → Some n ≡ cond (is_among name names) (Some (number_in names name)) None
known_answer names name n is low = let known = low_is_known names name (omega (arith, is)) in rw known (ap Some is)

-- a name that is there stays numbered as it was
pub with_known : (names : List (List ℕ)) (name : List ℕ) → is_among name names ≡ true → with_optional (Some name) names ≡ names
with_known names name known = rw known refl
