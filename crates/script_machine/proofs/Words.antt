-- The words of a line, one after the other.
use Rattle.std.proofs.Common.{◌≡◌, ℕ, suc, ◌-◌, ◌<◌, Bool, true, false, not, List, [], ◌∷◌, length, take, drop, filter, nat_lt, refl, sym, ap, ◌∙◌, one-add, arith, lt-ltb}
use Rattle.std.specs.List.{prefix_len}
use Rattle.std.proofs.lemmas.List.{nil_from_length}
use Rattle.script_machine.specs.ScriptText.{is_blank, words_of, pieces, before_all}
use Rattle.script_machine.proofs.LineLemmas.{rest_is}

-- a byte of a word
abbrev pub is_letter : ℕ → Bool
is_letter b = not (is_blank b)

-- blanks at the front count for nothing
pub skip_blanks : (xs : List ℕ) → words_of xs ≡ words_of (drop (prefix_len is_blank xs) xs)
skip_blanks [] = refl
skip_blanks (b ∷ bs) = go (is_blank b) refl (skip_blanks bs)
  where
    go : (t : Bool) → is_blank b ≡ t → words_of bs ≡ words_of (drop (prefix_len is_blank bs) bs) → words_of (b ∷ bs) ≡ words_of (drop (prefix_len is_blank (b ∷ bs)) (b ∷ bs))
    go true e ih = rw (e, one-add) ih
    go false e ih = rw e (rw e refl)

-- the pieces of a front without a blank and of a rest
abbrev tail_pieces : List ℕ → List ℕ → List (List ℕ)
tail_pieces [] [] = []
tail_pieces (x ∷ w) [] = (x ∷ w) ∷ []
tail_pieces w (b ∷ bs) = w ∷ pieces is_blank bs

-- one byte more in the front
before_tail : (x : ℕ) (w r : List ℕ) → before_all x (tail_pieces w r) ≡ tail_pieces (x ∷ w) r
before_tail x [] [] = refl
before_tail x (y ∷ w) [] = refl
before_tail x [] (b ∷ bs) = refl
before_tail x (y ∷ w) (b ∷ bs) = refl

-- the first piece is what stands before the first blank
first_piece : (xs : List ℕ) → pieces is_blank xs ≡ tail_pieces (take (prefix_len is_letter xs) xs) (drop (prefix_len is_letter xs) xs)
first_piece [] = refl
first_piece (x ∷ xs) = go (is_blank x) refl (first_piece xs)
  where
    go : (t : Bool) → is_blank x ≡ t → pieces is_blank xs ≡ tail_pieces (take (prefix_len is_letter xs) xs) (drop (prefix_len is_letter xs) xs)
        → pieces is_blank (x ∷ xs) ≡ tail_pieces (take (prefix_len is_letter (x ∷ xs)) (x ∷ xs)) (drop (prefix_len is_letter (x ∷ xs)) (x ∷ xs))
    go true e ih = rw e refl
    go false e ih = rw (e, one-add) (ap (before_all x) ih ∙ before_tail x (take (prefix_len is_letter xs) xs) (drop (prefix_len is_letter xs) xs))

-- nothing, or a blank in front
abbrev IsEnd : List ℕ → Type 0
IsEnd [] = Unit {0}
IsEnd (b ∷ bs) = is_blank b ≡ true

-- behind the first word nothing or a blank stands
ends : (xs : List ℕ) → IsEnd (drop (prefix_len is_letter xs) xs)
ends [] = tt
ends (x ∷ xs) = go (is_blank x) refl (ends xs)
  where
    go : (t : Bool) → is_blank x ≡ t → IsEnd (drop (prefix_len is_letter xs) xs) → IsEnd (drop (prefix_len is_letter (x ∷ xs)) (x ∷ xs))
    go true e ih = rw e e
    go false e ih = rw (e, one-add) ih

-- the words of a front without a blank and of a rest
split_words : (x : ℕ) (w r : List ℕ) → IsEnd r → filter (λ word. nat_lt 0 (length word)) (tail_pieces (x ∷ w) r) ≡ (x ∷ w) ∷ words_of r
split_words x w [] e = rw (lt-ltb 0 (suc (length w)) (omega arith)) refl
split_words x w (b ∷ bs) e = rw (lt-ltb 0 (suc (length w)) (omega arith), e) refl

-- the first word of a line that begins with no blank
pub first_word_is : (xs : List ℕ) → 0 < length xs → prefix_len is_blank xs ≡ 0
    → words_of xs ≡ take (prefix_len is_letter xs) xs ∷ words_of (drop (prefix_len is_letter xs) xs)
first_word_is [] h z = absurd (omega arith)
first_word_is (x ∷ xs) h z = go (is_blank x) refl
  where
    go : (t : Bool) → is_blank x ≡ t → words_of (x ∷ xs) ≡ take (prefix_len is_letter (x ∷ xs)) (x ∷ xs) ∷ words_of (drop (prefix_len is_letter (x ∷ xs)) (x ∷ xs))
    go true e = absurd (let no' = rw e at z in omega arith)
    go false e =
        ap (filter (λ word. nat_lt 0 (length word))) (first_piece (x ∷ xs)) ∙
        (let there = ends (x ∷ xs) in
        let there' = rw (e, one-add) at there in
        rw (e, one-add) (split_words x (take (prefix_len is_letter xs) xs) (drop (prefix_len is_letter xs) xs) there'))

-- after the blanks at the front there is none
pub no_blank_left : (xs : List ℕ) → prefix_len is_blank (drop (prefix_len is_blank xs) xs) ≡ 0
no_blank_left [] = refl
no_blank_left (b ∷ bs) = go (is_blank b) refl (no_blank_left bs)
  where
    go : (t : Bool) → is_blank b ≡ t → prefix_len is_blank (drop (prefix_len is_blank bs) bs) ≡ 0 → prefix_len is_blank (drop (prefix_len is_blank (b ∷ bs)) (b ∷ bs)) ≡ 0
    go true e ih = rw (e, one-add) ih
    go false e ih = rw e (rw e refl)

-- without words where only blanks stand
pub no_words : (xs : List ℕ) (b : ℕ) → b ≡ prefix_len is_blank xs → length (take (length xs - b) (drop b xs)) ≡ 0 → words_of xs ≡ []
no_words xs b e none =
    let left : drop b xs ≡ [] = nil_from_length (drop b xs) (ap length (sym (rest_is xs b)) ∙ none) in
    skip_blanks xs ∙ ap (λ n. words_of (drop n xs)) (sym e) ∙ ap words_of left

-- the first word, as slices give it
pub word_split : (xs ys : List ℕ) (b n : ℕ) → b ≡ prefix_len is_blank xs → ys ≡ take (length xs - b) (drop b xs) → 0 < length ys → n ≡ prefix_len is_letter ys
    → words_of xs ≡ take n ys ∷ words_of (take (length ys - n) (drop n ys))
word_split xs ys b n blanks are some letters =
    let ys_is : ys ≡ drop b xs = are ∙ rest_is xs b in
    let front : prefix_len is_blank ys ≡ 0 = rw (ys_is, blanks) (no_blank_left xs) in
    let here : words_of xs ≡ words_of ys = skip_blanks xs ∙ ap (λ k. words_of (drop k xs)) (sym blanks) ∙ ap words_of (sym ys_is) in
    rw (rest_is ys n, letters) (here ∙ first_word_is ys some front)
