-- The names of drawn threads, locks and variables.
use Rattle.std.proofs.Common.{◌≡◌, ℕ, ◌<◌, ◌≤◌, Bool, true, false, true≢false, not, ◌==◌, [], ◌∷◌, ◌++◌, length, map, refl, sym, ap, ◌∙◌, arith, eqb-true}
use Rattle.std.specs.List.{range_with_len}
use Rattle.std.specs.Fmt.{decimal}
use Rattle.std.proofs.lemmas.Bool.{lt-ltb, le-leb}
use Rattle.std.proofs.lemmas.Fmt.{decimal_injective, length-decimal-le}
use Rattle.std.proofs.lemmas.Option.{unwrap_or-slice_get}
use Rattle.std.proofs.lemmas.List.FromFn.{length-map-range_with_len, get_or-map-range_with_len}
use Rattle.sp_base.specs.Digits.{is_digit}
use Rattle.trace_laws.specs.Names.{is_name, is_name_byte}
use Rattle.std_text.specs.Rereading.{AreReadable}
use Rattle.std_text.specs.Writing.{name_at}
use Rattle.std_text.proofs.Spelling.{all_digits, list_all-weaken}
use Rattle.drawn_trace.specs.declared.numbers.TheConstants.{THREADS, LOCKS, VARS}
use Rattle.drawn_trace.specs.Drawn.{letter_names, drawn_names}

-- a number that is not that of a digit is not this one
no_digit : (b n : ℕ) → is_digit b ≡ true → (is_digit n ≡ false) → not (b == n) ≡ true
no_digit b n h none = go (b == n) refl
  where
    go : (v : Bool) → (b == n) ≡ v → not v ≡ true
    go true is = absurd (true≢false (sym h ∙ ap is_digit (eqb-true b n is) ∙ none))
    go false is = refl

-- a digit may stand in a name
digit_of_name : (b : ℕ) → is_digit b ≡ true → is_name_byte b ≡ true
digit_of_name b h = rw (no_digit b 10 h refl, no_digit b 40 h refl, no_digit b 41 h refl, no_digit b 124 h refl) refl

-- names of a letter and a number
module _ (letter count : ℕ) (of_name : is_name_byte letter ≡ true) (few : count ≤ 64) where
  -- how many there are
  pub count_is : length (letter_names (letter ∷ []) count) ≡ count
  unfolding letter_names
  count_is = length-map-range_with_len (λ n. (letter ∷ []) ++ decimal n) 0 count

  -- the name of a number
  pub name_is : (n : ℕ) → n < count → name_at (letter_names (letter ∷ []) count) n ≡ letter ∷ decimal n
  unfolding letter_names
  name_is n less = unwrap_or-slice_get (map (λ m. (letter ∷ []) ++ decimal m) (range_with_len 0 count)) n [] ∙ get_or-map-range_with_len (λ m. (letter ∷ []) ++ decimal m) 0 count n n [] less (omega arith)

  -- is short
  pub name_short : (n : ℕ) → n < count → length (letter ∷ decimal n) ≤ 3
  name_short n less = let digits : length (decimal n) ≤ 2 = length-decimal-le 2 n (omega arith) (omega arith) (omega arith) in omega arith

  -- and can be read
  name_valid : (n : ℕ) → n < count → is_name (letter ∷ decimal n) ≡ true
  name_valid n less =
      let short = name_short n less in
      let digits = list_all-weaken is_digit is_name_byte digit_of_name (decimal n) (all_digits n (omega arith)) in
      rw (lt-ltb 0 (length (letter ∷ decimal n)) (omega arith), le-leb (length (letter ∷ decimal n)) 255 (omega arith), of_name, digits) refl

  -- other numbers have other names
  name_distinct : (m n : ℕ) → m < count → n < count → letter ∷ decimal m ≡ letter ∷ decimal n → m ≡ n
  name_distinct m n less_m less_n same = decimal_injective m n (omega arith) (omega arith) (cc)

  -- all of them can be read
  pub letter_names_readable : (limit : ℕ) → count ≤ limit → AreReadable (letter_names (letter ∷ []) count) limit
  letter_names_readable limit within = record {
    valid = λ n less. let is = name_is n (less_than_count n less) in ap is_name is ∙ name_valid n (less_than_count n less);
    distinct = λ m n less_m less_n same. name_distinct m n (less_than_count m less_m) (less_than_count n less_n)
        (sym (name_is m (less_than_count m less_m)) ∙ same ∙ name_is n (less_than_count n less_n));
    few = let size = count_is in omega arith;
  }
    where
      less_than_count : (n : ℕ) → n < length (letter_names (letter ∷ []) count) → n < count
      less_than_count n less = let size = count_is in omega arith

-- ---- the names

-- of the threads
pub threads_are : drawn_names.threads ≡ letter_names (84 ∷ []) THREADS
unfolding drawn_names
threads_are = refl

-- of the locks
pub locks_are : drawn_names.locks ≡ letter_names (76 ∷ []) LOCKS
unfolding drawn_names
locks_are = refl

-- of the variables
pub vars_are : drawn_names.vars ≡ letter_names (88 ∷ []) VARS
unfolding drawn_names
vars_are = refl

-- how many threads have names
pub thread_count : length drawn_names.threads ≡ THREADS
thread_count = ap length threads_are ∙ count_is 84 THREADS refl (omega arith)

-- how many locks
pub lock_count : length drawn_names.locks ≡ LOCKS
lock_count = ap length locks_are ∙ count_is 76 LOCKS refl (omega arith)

-- how many variables
pub var_count : length drawn_names.vars ≡ VARS
var_count = ap length vars_are ∙ count_is 88 VARS refl (omega arith)

-- the name of a thread
pub thread_name : (t : ℕ) → t < length drawn_names.threads → name_at drawn_names.threads t ≡ 84 ∷ decimal t
thread_name t less = let count = thread_count in ap (λ names. name_at names t) threads_are ∙ name_is 84 THREADS refl (omega arith) t (omega arith)

-- of a lock
pub lock_name : (l : ℕ) → l < length drawn_names.locks → name_at drawn_names.locks l ≡ 76 ∷ decimal l
lock_name l less = let count = lock_count in ap (λ names. name_at names l) locks_are ∙ name_is 76 LOCKS refl (omega arith) l (omega arith)

-- of a variable
pub var_name : (x : ℕ) → x < length drawn_names.vars → name_at drawn_names.vars x ≡ 88 ∷ decimal x
var_name x less = let count = var_count in ap (λ names. name_at names x) vars_are ∙ name_is 88 VARS refl (omega arith) x (omega arith)
