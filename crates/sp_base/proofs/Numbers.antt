-- Numbers of digits.
use Rattle.std.proofs.Common.{◌≡◌, ℕ, ◌+◌, ◌-◌, ◌*◌, ◌<◌, ◌≤◌, true, false, List, [], ◌∷◌, length, take, drop, get_or, Some, None, refl, sym, ap, ◌∙◌, arith}
use Rattle.std.specs.Prelude.{nat_le}
use Rattle.std.specs.List.{list_all}
use Rattle.std.proofs.lemmas.Bool.{lt-ltb, le-leb, lt-leb}
use Rattle.std.proofs.lemmas.List.{at_drop_more, at_drop_all, take_all}
use Rattle.std.proofs.lemmas.List.Folds.{list_all_at}
use Rattle.std.proofs.Math.Bool.{and-false}
use Rattle.sp_base.specs.Digits.{is_digit, number_after, number_written}

-- digits make a number no less
number_grows : (n : ℕ) (bs : List ℕ) → n ≤ number_after n bs
number_grows n [] = omega arith
number_grows n (b ∷ bs) = let more = number_grows (n * 10 + (b - 48)) bs in omega (arith, more)

-- too great a number
pub too_great : (bound : ℕ) (word : List ℕ) (n i : ℕ) → number_after n (drop i word) ≡ number_after 0 word → i < length word → bound < n * 10 + (get_or word i 0 - 48) → number_written bound word ≡ None
too_great bound word n i so_far within great =
    let next : number_after (n * 10 + (get_or word i 0 - 48)) (drop (i + 1) word) ≡ number_after 0 word = sym (at_drop_more (number_after n) word i 0 within) ∙ so_far in
    let more = number_grows (n * 10 + (get_or word i 0 - 48)) (drop (i + 1) word) in
    let over : nat_le (number_after 0 word) bound ≡ false = lt-leb _ _ (omega (arith, more, next, great)) in
    rw (over, and-false, and-false) refl

-- a byte that is no digit
pub no_number : (bound : ℕ) (word : List ℕ) (i : ℕ) → i < length word → is_digit (get_or word i 0) ≡ false → number_written bound word ≡ None
no_number bound word i within other = rw (list_all_at is_digit word i 0 within other, and-false) refl

-- all digits
pub whole_number : (bound : ℕ) (word : List ℕ) (n i : ℕ) → 0 < length word → length word ≤ i → number_after n (drop i word) ≡ number_after 0 word → list_all is_digit (take i word) ≡ true → n ≤ bound → number_written bound word ≡ Some n
whole_number bound word n i some all number digits few =
    let value : number_after 0 word ≡ n = sym number ∙ at_drop_all (number_after n) word i all in
    let each : list_all is_digit word ≡ true = ap (list_all is_digit) (sym (take_all i word all)) ∙ digits in
    rw (lt-ltb 0 (length word) some, each, value, le-leb n bound few) refl
