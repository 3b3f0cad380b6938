-- The lines of a text, one after the other.
use Rattle.std.proofs.Common.{◌≡◌, ℕ, zero, suc, ◌+◌, ◌-◌, ◌<◌, ◌≤◌, Bool, true, false, not, List, [], ◌∷◌, length, take, drop, map, get_or, refl, sym, ap, ◌∙◌, arith, length-drop, eq-eqb, ne_eqb}
use Rattle.std.specs.Prelude.{◌==◌}
use Rattle.std.specs.List.{prefix_len}
use Rattle.std.proofs.lemmas.List.{take_all, drop_all}
use Rattle.script_machine.specs.ScriptText.{lines_of, without_return, pieces, before_all}

-- a newline
abbrev pub is_newline : ℕ → Bool
is_newline b = b == 10

-- any other byte
abbrev pub is_other : ℕ → Bool
is_other b = not (b == 10)

-- a line that ends otherwise stays
pub without_none : (xs : List ℕ) (n : ℕ) → length xs ≡ suc n → (get_or xs n 0 ≡ 13 → ⊥) → without_return xs ≡ xs
without_none [] n h other = refl
without_none (b ∷ []) zero h other = rw (ne_eqb b 13 other) refl
without_none (b ∷ []) (suc n) h other = absurd (omega arith)
without_none (b ∷ c ∷ bs) zero h other = absurd (omega arith)
without_none (b ∷ c ∷ bs) (suc n) h other = ap (λ xs. b ∷ xs) (without_none (c ∷ bs) n (omega arith) other)

-- a line that ends so loses its last byte
pub without_one : (xs : List ℕ) (n : ℕ) → length xs ≡ suc n → get_or xs n 0 ≡ 13 → without_return xs ≡ take n xs
without_one [] n h ends = absurd (omega arith)
without_one (b ∷ []) zero h ends = rw (eq-eqb b 13 ends) refl
without_one (b ∷ []) (suc n) h ends = absurd (omega arith)
without_one (b ∷ c ∷ bs) zero h ends = absurd (omega arith)
without_one (b ∷ c ∷ bs) (suc n) h ends = ap (λ xs. b ∷ xs) (without_one (c ∷ bs) n (omega arith) ends)

-- the first piece is what stands before the first newline
pub first_piece : (xs : List ℕ) → 0 < length xs → pieces is_newline xs ≡ take (prefix_len is_other xs) xs ∷ pieces is_newline (drop (prefix_len is_other xs + 1) xs)
first_piece [] h = absurd (omega arith)
first_piece (x ∷ []) h = go (is_newline x) refl
  where
    go : (t : Bool) → is_newline x ≡ t → pieces is_newline (x ∷ []) ≡ take (prefix_len is_other (x ∷ [])) (x ∷ []) ∷ pieces is_newline (drop (prefix_len is_other (x ∷ []) + 1) (x ∷ []))
    go true e = rw e refl
    go false e = rw e refl
first_piece (x ∷ y ∷ ys) h = go (is_newline x) refl (first_piece (y ∷ ys) (omega arith))
  where
    go : (t : Bool) → is_newline x ≡ t
        → pieces is_newline (y ∷ ys) ≡ take (prefix_len is_other (y ∷ ys)) (y ∷ ys) ∷ pieces is_newline (drop (prefix_len is_other (y ∷ ys) + 1) (y ∷ ys))
        → pieces is_newline (x ∷ y ∷ ys) ≡ take (prefix_len is_other (x ∷ y ∷ ys)) (x ∷ y ∷ ys) ∷ pieces is_newline (drop (prefix_len is_other (x ∷ y ∷ ys) + 1) (x ∷ y ∷ ys))
    go true e ih = rw e refl
    go false e ih =
        let ahead : prefix_len is_other (x ∷ y ∷ ys) ≡ suc (prefix_len is_other (y ∷ ys)) = rw e (omega arith) in
        let next : suc (prefix_len is_other (y ∷ ys)) + 1 ≡ suc (prefix_len is_other (y ∷ ys) + 1) = omega arith in
        rw (ahead, next) (rw e (ap (before_all x) ih))

-- the first line, as slices give it
pub line_split : (xs rest : List ℕ) (n : ℕ) (line : List ℕ) → 0 < length xs → n ≡ prefix_len is_other xs → line ≡ without_return (take n xs)
    → rest ≡ drop (n + 1) xs → lines_of xs ≡ line ∷ lines_of rest
line_split xs rest n line some is trims left =
    ap (map without_return) (first_piece xs some) ∙ (rw (trims, left, is) refl)

-- a slice to the end is the rest
pub rest_is : (xs : List ℕ) (n : ℕ) → take (length xs - n) (drop n xs) ≡ drop n xs
rest_is xs n = take_all (length xs - n) (drop n xs) (omega (arith, length-drop n xs))

-- past the end nothing is left
pub rest_none : (xs : List ℕ) (n : ℕ) → length xs ≤ n → take (length xs - n) (drop n xs) ≡ drop (n + 1) xs
rest_none xs n h = rest_is xs n ∙ drop_all n xs h ∙ sym (drop_all (n + 1) xs (omega arith))
