-- The mode of a word in a list of modes by their names.
use Rattle.std.proofs.Common.{◌≡◌, ℕ, suc, ◌+◌, ◌<◌, ◌≤◌, false, true, List, ◌++◌, length, map, drop, get_or, Option, Some, None, refl, sym, ap, arith, ◌∙◌, bytes_eq}
use Rattle.std.specs.Prelude.{codes}
use Rattle.std.proofs.lemmas.List.{append_assoc, append-nil, drop_all}
use Rattle.std.proofs.Math.Seq.{drop-cons}
use Rattle.std.specs.Borrow.{Bor}
use Rattle.command_words.specs.declared.mode.Mode.{Mode}
use Rattle.command_words.specs.ModeNames.{mode_among, names_behind}

-- the mode of a word in a list of code
abbrev pub mode_in : List (Bor (List ℕ) × Mode) → List ℕ → Option Mode
mode_in ms word = mode_among (map (λ m. (m.0.now, m.1)) ms) word

-- a name that is not the word
pub passed : (ms : List (Bor (List ℕ) × Mode)) (word : List ℕ) (i : ℕ) (d : Bor (List ℕ) × Mode) → i < length ms → bytes_eq word (get_or ms i d).0.now ≡ false
    → mode_in (drop i ms) word ≡ mode_in (drop (i + 1) ms) word
passed ms word i d lt other =
    let next : suc i ≡ i + 1 = omega arith in
    ap (λ l. mode_in l word) (drop-cons ms i d lt) ∙ rw other (ap (λ k. mode_in (drop k ms) word) next)

-- the name that is
pub found : (ms : List (Bor (List ℕ) × Mode)) (word : List ℕ) (i : ℕ) (d : Bor (List ℕ) × Mode) → i < length ms → bytes_eq word (get_or ms i d).0.now ≡ true
    → mode_in (drop i ms) word ≡ Some (get_or ms i d).1
found ms word i d lt same = ap (λ l. mode_in l word) (drop-cons ms i d lt) ∙ rw same refl

-- behind the last
pub exhausted : (ms : List (Bor (List ℕ) × Mode)) (word : List ℕ) (i : ℕ) → length ms ≤ i → mode_in (drop i ms) word ≡ None
exhausted ms word i past = ap (λ l. mode_in l word) (drop_all i ms past)

-- the names of a list in code, each behind a comma
abbrev pub names_in : List (Bor (List ℕ) × Mode) → List ℕ
names_in ms = names_behind (map (λ m. (m.0.now, m.1)) ms)

-- one name more
pub name_added : (ms : List (Bor (List ℕ) × Mode)) (text : List ℕ) (i : ℕ) (d : Bor (List ℕ) × Mode) → i < length ms
    → (text ++ codes ", " ++ (get_or ms i d).0.now) ++ names_in (drop (i + 1) ms) ≡ text ++ names_in (drop i ms)
name_added ms text i d lt =
    let next : suc i ≡ i + 1 = omega arith in
    let name = (get_or ms i d).0.now in
    let rest = names_in (drop (i + 1) ms) in
    ap (λ t. t ++ rest) (append_assoc text (codes ", ") name) ∙ append_assoc text (codes ", " ++ name) rest
    ∙ sym (ap (λ l. text ++ names_in l) (drop-cons ms i d lt) ∙ ap (λ k. text ++ (codes ", " ++ name ++ names_in (drop k ms))) next)

-- no name more
pub names_added : (ms : List (Bor (List ℕ) × Mode)) (text : List ℕ) (i : ℕ) → length ms ≤ i → text ++ names_in (drop i ms) ≡ text
names_added ms text i past = ap (λ l. text ++ names_in l) (drop_all i ms past) ∙ append-nil text
