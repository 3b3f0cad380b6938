-- The lines read so far, and one more.
use Rattle.std.proofs.Common.{◌≡◌, ℕ, zero, suc, ◌+◌, List, [], ◌∷◌, ◌++◌, length, take, drop, slice_get, filter_map, Option, Some, None, option_to_list, refl, ap, ◌∙◌, append-nil, add-one, add-zero, arith}
use Rattle.std.specs.List.{enumerate_from}
use Rattle.std.proofs.lemmas.List.Elements.{filter_map-append}
use Rattle.std.proofs.lemmas.List.Sums.{fold_push}
use Rattle.script_machine.specs.ScriptText.{words_of, words_say, fault_of, fault_at, statements_of, numbered_of, Numbered, Tables, tables_of, grown, with_optional, names_in, first_appearances, thread_name, lock_name, variable_name, Statement}
use Rattle.script_machine.specs.Spoken.{grown_by}

-- the lines up to the next one
pub take_next : (lines : List (List ℕ)) (k : ℕ) (line : List ℕ) (rest : List (List ℕ)) → drop k lines ≡ line ∷ rest → take (k + 1) lines ≡ take k lines ++ line ∷ []
take_next [] zero line rest h = absurd (cc)
take_next [] (suc k) line rest h = absurd (cc)
take_next (x ∷ xs) zero line rest h = let same : x ≡ line = cc in ap (λ y. y ∷ []) same
take_next (x ∷ xs) (suc k) line rest h = rw add-one (let next = take_next xs k line rest h in let next' = rw add-one at next in ap (λ ys. x ∷ ys) next')

-- the lines after the next one
pub drop_next : (lines : List (List ℕ)) (k : ℕ) (line : List ℕ) (rest : List (List ℕ)) → drop k lines ≡ line ∷ rest → drop (k + 1) lines ≡ rest
drop_next [] zero line rest h = absurd (cc)
drop_next [] (suc k) line rest h = absurd (cc)
drop_next (x ∷ xs) zero line rest h = cc
drop_next (x ∷ xs) (suc k) line rest h = rw add-one (let next = drop_next xs k line rest h in let next' = rw add-one at next in next')

-- the next line stands at its place
pub get_next : (lines : List (List ℕ)) (k : ℕ) (line : List ℕ) (rest : List (List ℕ)) → drop k lines ≡ line ∷ rest → slice_get lines k ≡ Some line
get_next [] zero line rest h = absurd (cc)
get_next [] (suc k) line rest h = absurd (cc)
get_next (x ∷ xs) zero line rest h = cc
get_next (x ∷ xs) (suc k) line rest h = get_next xs k line rest h

-- so many lines were taken
pub take_length : (lines : List (List ℕ)) (k : ℕ) (line : List ℕ) (rest : List (List ℕ)) → drop k lines ≡ line ∷ rest → length (take k lines) ≡ k
take_length [] zero line rest h = refl
take_length [] (suc k) line rest h = absurd (cc)
take_length (x ∷ xs) zero line rest h = refl
take_length (x ∷ xs) (suc k) line rest h = ap suc (take_length xs k line rest h)

-- one more line has the next number
enumerate_push : (n : ℕ) (xs : List (List ℕ)) (x : List ℕ) → enumerate_from n (xs ++ x ∷ []) ≡ enumerate_from n xs ++ (n + length xs, x) ∷ []
enumerate_push n [] x = rw add-zero refl
enumerate_push n (y ∷ ys) x =
    let k : n + 1 + length ys ≡ n + suc (length ys) = omega arith in
    ap (λ zs. (n, y) ∷ zs) (enumerate_push (n + 1) ys x ∙ ap (λ m. enumerate_from (n + 1) ys ++ (m, x) ∷ []) k)

-- the statements with one more line
pub statements_next : (lines : List (List ℕ)) (line : List ℕ) → statements_of (lines ++ line ∷ []) ≡ statements_of lines ++ option_to_list (numbered_of (1 + length lines) (words_say (words_of line)))
statements_next lines line =
    ap (filter_map (λ l. numbered_of l.0 (words_say (words_of l.1)))) (enumerate_push 1 lines line)
    ∙ (filter_map-append _ (enumerate_from 1 lines) ((1 + length lines, line) ∷ []) ∙ ap (λ xs. statements_of lines ++ xs) (one (numbered_of (1 + length lines) (words_say (words_of line)))))
  where
    one : (o : Option Numbered) → Rattle.std.specs.List.cons_option o [] ≡ option_to_list o
    one None = refl
    one (Some s) = refl

-- the names with one more statement
names_next : (name_of : Statement → Option (List ℕ)) (xs : List Numbered) (s : Numbered) → names_in name_of (xs ++ s ∷ []) ≡ with_optional (name_of s.says) (names_in name_of xs)
names_next name_of xs s = ap first_appearances (filter_map-append (λ n. name_of n.says) xs (s ∷ [])) ∙ one (name_of s.says)
  where
    one : (o : Option (List ℕ)) → first_appearances (filter_map (λ n. name_of n.says) xs ++ Rattle.std.specs.List.cons_option o []) ≡ with_optional o (names_in name_of xs)
    one None = ap first_appearances (append-nil (filter_map (λ n. name_of n.says) xs))
    one (Some name) = fold_push _ [] (filter_map (λ n. name_of n.says) xs) name

-- the tables with one more statement
pub tables_next : (xs : List Numbered) (s : Numbered) → tables_of (xs ++ s ∷ []) ≡ grown (tables_of xs) s.line s.says
tables_next xs s = λ i. record {
  threads = names_next thread_name xs s i;
  locks = names_next lock_name xs s i;
  variables = names_next variable_name xs s i;
  blocks = fold_push (λ blocks n. Rattle.script_machine.specs.ScriptText.open_after n.line n.says blocks) [] xs s i;
}

-- the tables with the statement of one more line, where it has one
pub tables_more : (xs : List Numbered) (o : Option Numbered) → tables_of (xs ++ option_to_list o) ≡ grown_by (tables_of xs) o
tables_more xs None = ap tables_of (append-nil xs)
tables_more xs (Some s) = tables_next xs s

-- the statements with those of the next line
pub statements_more : (lines : List (List ℕ)) (k : ℕ) (line : List ℕ) (rest : List (List ℕ)) → drop k lines ≡ line ∷ rest
    → statements_of (take (k + 1) lines) ≡ statements_of (take k lines) ++ option_to_list (numbered_of (k + 1) (words_say (words_of line)))
statements_more lines k line rest h =
    let count : 1 + length (take k lines) ≡ k + 1 = (let l = take_length lines k line rest h in omega arith) in
    ap statements_of (take_next lines k line rest h) ∙ statements_next (take k lines) line
    ∙ ap (λ n. statements_of (take k lines) ++ option_to_list (numbered_of n (words_say (words_of line)))) count

-- the fault of the next line, by the tables so far
pub fault_next : (lines : List (List ℕ)) (k : ℕ) (line : List ℕ) (rest : List (List ℕ)) (tables : Tables) → drop k lines ≡ line ∷ rest → tables ≡ tables_of (statements_of (take k lines))
    → fault_at lines k ≡ fault_of (k + 1) tables (words_say (words_of line))
fault_next lines k line rest tables h same = rw (get_next lines k line rest h, same) refl
