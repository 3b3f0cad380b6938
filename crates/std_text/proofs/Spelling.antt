-- What a written line says.
use Rattle.std.proofs.Common.{◌≡◌, ℕ, ◌-◌, ◌<◌, ◌≤◌, ◌^◌, Bool, true, false, not, ◌&&◌, ◌==◌, List, [], ◌∷◌, ◌++◌, length, Some, Ok, refl, sym, ap, ◌∙◌, arith, length-append, append_assoc, eq-eqb, true≢false}
use Rattle.std.specs.Prelude.{nat_lt, slice_index}
use Rattle.std.specs.List.{list_all, position_or_len}
use Rattle.std.specs.Fmt.{decimal}
use Rattle.std.proofs.lemmas.Bool.{lt-ltb, ltb-true, le-leb, leb-true}
use Rattle.std.proofs.lemmas.Fmt.{decimal_nonempty, digits_decimal, digits_value-decimal}
use Rattle.std.proofs.lemmas.Str.Parse.{IsDigitsTest, IsNumeralModel, numerals_by_fold}
use Rattle.std.proofs.Math.Seq.{take-append_seam, drop-append-add}
use Rattle.sp_base.specs.Digits.{is_digit, number_after}
use Rattle.trace_laws.specs.Names.{is_name_byte, is_name}
use Rattle.std_text.specs.declared.fields.Action.{Action}
use Rattle.std_text.specs.Fields.{bar, opening, closing, split_first, split_last, before_first, location_field, action_of, is_skipped, location_written, event_says, line_says}

-- ---- tests

-- both of two
pub both : (a b : Bool) → (a && b) ≡ true → (a ≡ true) × (b ≡ true)
both true true h = (refl, refl)
both true false h = absurd (true≢false (sym h))
both false b h = absurd (true≢false (sym h))

-- a weaker test passes where a stronger one does
pub list_all-weaken : {X : Type 0} (p q : X → Bool) → ((x : X) → p x ≡ true → q x ≡ true) → (xs : List X) → list_all p xs ≡ true → list_all q xs ≡ true
list_all-weaken p q h [] all = refl
list_all-weaken p q h (x ∷ xs) all = let parts = both (p x) (list_all p xs) all in rw (h x parts.0, list_all-weaken p q h xs parts.1) refl

-- ---- the first byte of a kind

-- behind bytes that are none
first_at : (at : ℕ) (xs ys : List ℕ) → list_all (λ b. not (b == at)) xs ≡ true → position_or_len (λ b. b == at) (xs ++ at ∷ ys) ≡ length xs
first_at at [] ys none = rw (eq-eqb at at refl) refl
first_at at (x ∷ xs) ys none =
    let parts = both (not (x == at)) (list_all (λ b. not (b == at)) xs) none in
    let more = first_at at xs ys parts.1 in
    rw parts.0 (omega (arith, more))

module _ (at : ℕ) (xs ys : List ℕ) (none : list_all (λ b. not (b == at)) xs ≡ true) where
  -- there is one
  within : nat_lt (position_or_len (λ b. b == at) (xs ++ at ∷ ys)) (length (xs ++ at ∷ ys)) ≡ true
  within = let first = first_at at xs ys none in lt-ltb _ _ (omega (arith, length-append xs (at ∷ ys), first))

  -- what stands before it and after it
  pub split_at : split_first at (xs ++ at ∷ ys) ≡ Some (xs, ys)
  split_at = rw (within, first_at at xs ys none, take-append_seam xs (at ∷ ys), drop-append-add xs (at ∷ ys) 1) refl

  -- what stands before it
  pub before_at : before_first at (xs ++ at ∷ ys) ≡ xs
  before_at = rw (within, first_at at xs ys none) (take-append_seam xs (at ∷ ys))

-- what stands behind the first bar
pub location_at : (xs ys : List ℕ) → list_all (λ b. not (b == bar)) xs ≡ true → location_field (xs ++ bar ∷ ys) ≡ ys
location_at xs ys none = rw (within bar xs ys none, first_at bar xs ys none) (drop-append-add xs (bar ∷ ys) 1)

-- the last byte
pub last_is : (xs : List ℕ) (y : ℕ) → slice_index (xs ++ y ∷ []) (length xs) ≡ y
last_is [] y = refl
last_is (x ∷ xs) y = last_is xs y

-- what stands before the last byte
pub last_at : (at : ℕ) (xs : List ℕ) → split_last at (xs ++ at ∷ []) ≡ Some xs
last_at at xs =
    let size : length (xs ++ at ∷ []) - 1 ≡ length xs = omega (arith, length-append xs (at ∷ [])) in
    rw (lt-ltb 0 (length (xs ++ at ∷ [])) (omega (arith, length-append xs (at ∷ []))), size, last_is xs at, eq-eqb at at refl, take-append_seam xs (at ∷ [])) refl

-- ---- names

-- a byte of a name is none of these
name_byte : (b : ℕ) → is_name_byte b ≡ true → (not (b == 10) ≡ true) × (not (b == opening) ≡ true) × (not (b == closing) ≡ true) × (not (b == bar) ≡ true)
name_byte b h =
    let a = both (not (b == 10)) _ h in
    let c = both (not (b == opening)) _ a.1 in
    let d = both (not (b == closing)) _ c.1 in
    (a.0, c.0, d.0, d.1)

-- the bytes of a name
pub record Plain (name : List ℕ) : Type 0 where
  pub some : 0 < length name
  pub few : length name ≤ 255
  pub no_newline : list_all (λ b. not (b == 10)) name ≡ true
  pub no_opening : list_all (λ b. not (b == opening)) name ≡ true
  pub no_bar : list_all (λ b. not (b == bar)) name ≡ true

-- those of each name
pub plain : (name : List ℕ) → is_name name ≡ true → Plain name
plain name h =
    let a = both (nat_lt 0 (length name)) _ h in
    let c = both _ (list_all is_name_byte name) a.1 in record {
      some = ltb-true 0 (length name) a.0;
      few = leb-true (length name) 255 c.0;
      no_newline = list_all-weaken is_name_byte _ (λ b n. (name_byte b n).0) name c.1;
      no_opening = list_all-weaken is_name_byte _ (λ b n. (name_byte b n).1) name c.1;
      no_bar = list_all-weaken is_name_byte _ (λ b n. (name_byte b n).3) name c.1;
    }

-- ---- a line

-- a word that says an action
pub record Says (word : List ℕ) (action : Action) : Type 0 where
  pub no_opening : list_all (λ b. not (b == opening)) word ≡ true
  pub no_bar : list_all (λ b. not (b == bar)) word ≡ true
  pub read : is_skipped word ≡ false
  pub is : action_of word ≡ Some action

-- two tests that pass on two lists pass on both
pub list_all-both : {X : Type 0} (p : X → Bool) (xs ys : List X) → list_all p xs ≡ true → list_all p ys ≡ true → list_all p (xs ++ ys) ≡ true
list_all-both p [] ys a b = b
list_all-both p (x ∷ xs) ys a b = let parts = both (p x) (list_all p xs) a in rw (parts.0, list_all-both p xs ys parts.1 b) refl

-- what a written line says
pub says : (name word operand place : List ℕ) (action : Action) → is_name name ≡ true → is_name operand ≡ true → Says word action
    → line_says (name ++ (bar ∷ (word ++ (opening ∷ (operand ++ closing ∷ bar ∷ place))))) ≡ Ok (Some (record { thread = name; action = action; operand = operand; location = location_written place }))
unfolding line_says event_says
says name word operand place action is_thread is_operand s =
    let field : List ℕ = word ++ (opening ∷ (operand ++ closing ∷ [])) in
    let n = plain name is_thread in
    let o = plain operand is_operand in
    let whole : word ++ (opening ∷ (operand ++ closing ∷ bar ∷ place)) ≡ field ++ bar ∷ place =
    ap (λ xs. word ++ (opening ∷ xs)) (sym (append_assoc operand (closing ∷ []) (bar ∷ place))) ∙ sym (append_assoc word (opening ∷ (operand ++ closing ∷ [])) (bar ∷ place)) in
    let no_bar : list_all (λ b. not (b == bar)) field ≡ true = list_all-both _ word (opening ∷ (operand ++ closing ∷ [])) s.no_bar (list_all-both _ operand (closing ∷ []) o.no_bar refl) in
    rw (
      split_at bar name (word ++ (opening ∷ (operand ++ closing ∷ bar ∷ place))) n.no_bar,
      whole,
      before_at bar field place no_bar,
      location_at field place no_bar,
      before_at opening word (operand ++ closing ∷ []) s.no_opening,
      s.read,
      is_thread,
      s.is,
      split_at opening word (operand ++ closing ∷ []) s.no_opening,
      last_at closing operand,
      is_operand,
    ) refl

-- ---- a location

-- digits are told
digits : IsDigitsTest (λ ds. list_all is_digit ds ≡ true)
digits = record {
  empty = refl;
  parts = λ c cs e. let k = both (is_digit c) (list_all is_digit cs) e in let m = both _ _ k.0 in ((leb-true 48 c m.0, leb-true c 57 m.1), k.1);
  more = λ c cs k e. rw (le-leb 48 c k.0, le-leb c 57 k.1, e) refl;
}

-- and read from the left
numbers : IsNumeralModel (λ ds. list_all is_digit ds ≡ true) (number_after 0)
numbers = numerals_by_fold (λ ds. list_all is_digit ds ≡ true) digits number_after (record { empty = λ n. refl; more = λ n c cs k. refl })

-- a written location is read as the number
pub location_is : (n : ℕ) → n < (2 ^ 32) → location_written (decimal n) ≡ n
unfolding location_written
location_is n fits =
    let all = digits_decimal numbers n (omega arith) in
    let value = digits_value-decimal numbers n (omega arith) in
    rw (lt-ltb 0 (length (decimal n)) (decimal_nonempty n (omega arith)), all, value, le-leb n (2 ^ 32 - 1) (omega arith)) refl

-- its bytes are digits
pub all_digits : (n : ℕ) → n < (2 ^ 32) → list_all is_digit (decimal n) ≡ true
all_digits n fits = digits_decimal numbers n (omega arith)
