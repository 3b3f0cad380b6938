-- Numbers as decimal digits.
use Rattle.std.specs.Prelude.{ℕ, ◌+◌, ◌-◌, ◌*◌, Bool, List, [], ◌∷◌, ◌&&◌, length, nat_lt, nat_le, if◌then◌else◌}
use Rattle.std.specs.declared.option.Option.{Option}
use Rattle.std.specs.declared.option.Option.TheVariants.{None, Some}
use Rattle.std.specs.List.{list_all}

-- a decimal digit, `0` to `9`
abbrev pub is_digit : ℕ → Bool
is_digit b = nat_le 48 b && nat_le b 57

-- the number that digits after those of n write
abbrev pub number_after : ℕ → List ℕ → ℕ
number_after n [] = n
number_after n (b ∷ bs) = number_after (n * 10 + (b - 48)) bs

-- the number that a word of digits writes, where it is at most the bound
abbrev pub number_written : ℕ → List ℕ → Option ℕ
number_written bound word =
    if nat_lt 0 (length word) && (list_all is_digit word && nat_le (number_after 0 word) bound)
    then Some (number_after 0 word)
    else None
