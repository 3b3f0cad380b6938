-- A text in pieces is the text.
use Rattle.std.proofs.Common.{◌≡◌, ℕ, ◌+◌, ◌-◌, ◌<◌, ◌≤◌, Bool, true, false, cond, List, [], ◌∷◌, ◌++◌, ◌==◌, length, take, drop, Result, Ok, Err, refl, sym, ap, ◌∙◌, arith, length-append, nat_lt, inl, inr, subst, get_or, zero-le}
use Rattle.std.proofs.lemmas.Bool.{lt-ltb, cases_lt, le-ltb, ltb-false, ltb-true}
use Rattle.std.proofs.lemmas.List.{take-append-le, take_all, take_more, take-append-drop}
use Rattle.std.proofs.Math.Seq.{take-append-add}
use Rattle.sp_base.specs.declared.limits.TheConstants.{MAX_INPUT, MAX_LINE}
use Rattle.trace_laws.specs.Names.{NameLists}
use Rattle.std_text.specs.Refusal.{Refusal, refusal_of, ◌>>=◌}
use Rattle.std_text.specs.declared.fault.ReadFault.{ReadFault}
use Rattle.std_text.specs.declared.fault.ReadFault.TheVariants.{Text, OutOfMemory}
use Rattle.std_text.specs.declared.fault.StdKind.TheVariants.{LineTooLong, InputTooLong}
use Rattle.std_text.specs.Told.{Failed, Steps}
use Rattle.std_text.specs.Meaning.{Reading, refused}
use Rattle.std_text.specs.Framing.{Cut, Progress, cut_after, read_line, read_lines, through, after, closed}

-- ---- steps that may fail

-- a refusal before a step is one before both
pub bind_over : {A B C : Type 0} (x : Result A Refusal) (f : A → Result C Refusal) (g : A → Result B Refusal) (k : B → Result C Refusal)
    → ((y : A) → f y ≡ (g y >>= k)) → (x >>= f) ≡ ((x >>= g) >>= k)
bind_over (Ok y) f g k h = h y
bind_over (Err e) f g k h = refl

-- two ways on from one step
pub bind_both : {A B C D : Type 0} (x : Result A Refusal) (f : A → Result B Refusal) (k : B → Result D Refusal) (g : A → Result C Refusal) (h : C → Result D Refusal)
    → ((y : A) → (f y >>= k) ≡ (g y >>= h)) → ((x >>= f) >>= k) ≡ ((x >>= g) >>= h)
bind_both (Ok y) f k g h e = e y
bind_both (Err e) f k g h p = refl

-- ---- lines

-- two texts together have the lines of both
pub cut_append : (front xs ys : List ℕ) → cut_after front (xs ++ ys)
    ≡ record { lines = (cut_after front xs).lines ++ (cut_after (cut_after front xs).rest ys).lines; rest = (cut_after (cut_after front xs).rest ys).rest }
cut_append front [] ys = refl
cut_append front (b ∷ xs) ys =
    let new : Cut → Cut = λ c. record { lines = front ∷ c.lines; rest = c.rest } in
    let both : Cut → Cut = λ c. record { lines = c.lines ++ (cut_after c.rest ys).lines; rest = (cut_after c.rest ys).rest } in
    let P : Bool → Type 0 = λ v. cond v (new (cut_after [] (xs ++ ys))) (cut_after (front ++ b ∷ []) (xs ++ ys))
    ≡ both (cond v (new (cut_after [] xs)) (cut_after (front ++ b ∷ []) xs)) in
    let by : (v : Bool) → P v = λ v. elim v as P [ true ↦ ap new (cut_append [] xs ys) | false ↦ cut_append (front ++ b ∷ []) xs ys ] in
    by (b == 10)

-- lines are read one after the other
pub read_append : (r : Reading) (first more : List (List ℕ)) → read_lines r (first ++ more) ≡ (read_lines r first >>= λ s. read_lines s more)
read_append r [] more = refl
read_append r (line ∷ first) more = bind_over (read_line r line) _ _ _ (λ s. read_append s first more)

-- ---- lines that are too long

-- such a line is refused
read_too_long : (r : Reading) (line : List ℕ) → MAX_LINE < length line → read_line r line ≡ refused r LineTooLong
unfolding read_line
read_too_long r line over = rw (lt-ltb MAX_LINE (length line) over) refl

-- whatever comes behind its front
too_long : (r : Reading) (front bytes : List ℕ) (too_many : Bool) (n : ℕ) → MAX_LINE < length front → through r front bytes too_many n ≡ refused r LineTooLong
too_long r front [] too_many n over = rw (lt-ltb MAX_LINE (length front) over) refl
too_long r front (b ∷ bytes) too_many n over =
    let read : Cut → Result Progress Refusal = λ c. (read_lines r c.lines >>= λ s. cond (nat_lt MAX_LINE (length c.rest)) (refused s LineTooLong) (cond too_many (refused s InputTooLong) (Ok (record { reading = s; rest = c.rest; taken = n })))) in
    let P : Bool → Type 0 = λ v. read (cond v (record { lines = front ∷ (cut_after [] bytes).lines; rest = (cut_after [] bytes).rest }) (cut_after (front ++ b ∷ []) bytes)) ≡ refused r LineTooLong in
    let by : (v : Bool) → P v = λ v. elim v as P [
      | true ↦ rw (read_too_long r front over) refl
      | false ↦ too_long r (front ++ b ∷ []) bytes too_many n (omega (arith, length-append front (b ∷ [])))
    ] in
    by (b == 10)

-- ---- pieces

-- bytes within the limit, and more
through_append : (r : Reading) (front xs zs : List ℕ) (too_many : Bool) (m n : ℕ) (f : Progress → Result Progress Refusal)
    → ((s : Reading) → f (record { reading = s; rest = (cut_after front xs).rest; taken = m }) ≡ through s (cut_after front xs).rest zs too_many n)
    → through r front (xs ++ zs) too_many n ≡ (through r front xs false m >>= f)
through_append r front xs zs too_many m n f h =
    rw (cut_append front xs zs, read_append r (cut_after front xs).lines (cut_after (cut_after front xs).rest zs).lines)
    (bind_both (read_lines r (cut_after front xs).lines) _ _ _ _ (λ s. by s (nat_lt MAX_LINE (length (cut_after front xs).rest)) refl))
  where
    by : (s : Reading) (v : Bool) → nat_lt MAX_LINE (length (cut_after front xs).rest) ≡ v → through s (cut_after front xs).rest zs too_many n
        ≡ (cond v (refused s LineTooLong) (Ok (record { reading = s; rest = (cut_after front xs).rest; taken = m })) >>= f)
    by s true over = too_long s (cut_after front xs).rest zs too_many n (ltb-true _ _ over)
    by s false fits = sym (h s)

-- a refusal stays one whichever it is
refused_over : {A B : Type 0} (v : Bool) (e f : Refusal) (k : A → Result B Refusal) → cond v (Err e) (Err f) ≡ (cond v (Err e) (Err f) >>= k)
refused_over true e f k = refl
refused_over false e f k = refl

-- a text in two pieces is read as the whole
pub after_append : (p : Progress) (xs ys : List ℕ) → after p (xs ++ ys) ≡ (after p xs >>= λ q. after q ys)
unfolding after
after_append p xs ys = elim (cases_lt MAX_INPUT (p.taken + length xs)) [
  | inl over ↦
      let first : take (MAX_INPUT - p.taken) (xs ++ ys) ≡ take (MAX_INPUT - p.taken) xs = take-append-le _ xs ys (omega arith) in
      let whole : nat_lt MAX_INPUT (p.taken + length (xs ++ ys)) ≡ true = lt-ltb _ _ (omega (arith, length-append xs ys)) in
      let front : nat_lt MAX_INPUT (p.taken + length xs) ≡ true = lt-ltb _ _ over in
      rw (first, whole, front) (bind_over (read_lines p.reading (cut_after p.rest (take (MAX_INPUT - p.taken) xs)).lines) _ _ _ (λ s. refused_over _ _ _ _))
  | inr fits ↦
      let few : nat_lt MAX_INPUT (p.taken + length xs) ≡ false = le-ltb _ _ fits in
      let all : take (MAX_INPUT - p.taken) xs ≡ xs = take_all _ xs (omega arith) in
      let room : MAX_INPUT - p.taken ≡ length xs + (MAX_INPUT - (p.taken + length xs)) = omega arith in
      let both : take (MAX_INPUT - p.taken) (xs ++ ys) ≡ xs ++ take (MAX_INPUT - (p.taken + length xs)) ys = ap (λ n. take n (xs ++ ys)) room ∙ take-append-add xs ys _ in
      let count : p.taken + length (xs ++ ys) ≡ p.taken + length xs + length ys = omega (arith, length-append xs ys) in
      rw (both, all, few, count) (through_append p.reading p.rest xs (take (MAX_INPUT - (p.taken + length xs)) ys) _ (p.taken + length xs) _ _ (λ s. refl))
]

-- ---- one byte

-- the byte past the limit is refused
pub after_full : (p : Progress) (b : ℕ) → length p.rest ≤ MAX_LINE → p.taken ≡ MAX_INPUT → after p (b ∷ []) ≡ refused p.reading InputTooLong
unfolding after
after_full p b short full =
    let none : MAX_INPUT - p.taken ≡ 0 = omega arith in
    let over : nat_lt MAX_INPUT (p.taken + length (b ∷ [])) ≡ true = lt-ltb _ _ (omega arith) in
    rw (none, over, le-ltb MAX_LINE (length p.rest) short) refl

-- a newline ends the line
pub after_newline : (p : Progress) (b : ℕ) → p.taken < MAX_INPUT → b == 10 ≡ true
    → after p (b ∷ []) ≡ (read_line p.reading p.rest >>= λ r. Ok (record { reading = r; rest = []; taken = p.taken + 1 }))
unfolding after
after_newline p b room newline =
    let all : take (MAX_INPUT - p.taken) (b ∷ []) ≡ b ∷ [] = take_all _ (b ∷ []) (omega arith) in
    let few : nat_lt MAX_INPUT (p.taken + length (b ∷ [])) ≡ false = le-ltb _ _ (omega arith) in
    rw (all, few, newline) (sym (bind_over (read_line p.reading p.rest) _ (λ r. Ok r) _ (λ y. refl)))

-- one byte within the limit that ends no line
other_byte : (p : Progress) (b : ℕ) → p.taken < MAX_INPUT → b == 10 ≡ false
    → after p (b ∷ []) ≡ cond (nat_lt MAX_LINE (length (p.rest ++ b ∷ []))) (refused p.reading LineTooLong) (Ok (record { reading = p.reading; rest = p.rest ++ b ∷ []; taken = p.taken + 1 }))
unfolding after
other_byte p b room other =
    let all : take (MAX_INPUT - p.taken) (b ∷ []) ≡ b ∷ [] = take_all _ (b ∷ []) (omega arith) in
    let few : nat_lt MAX_INPUT (p.taken + length (b ∷ [])) ≡ false = le-ltb _ _ (omega arith) in
    rw (all, few, other) refl

-- goes onto the line
pub after_byte : (p : Progress) (b : ℕ) → p.taken < MAX_INPUT → b == 10 ≡ false → length p.rest < MAX_LINE → after p (b ∷ []) ≡ Ok (record { reading = p.reading; rest = p.rest ++ b ∷ []; taken = p.taken + 1 })
after_byte p b room other short = other_byte p b room other ∙ rw (le-ltb MAX_LINE (length (p.rest ++ b ∷ [])) (omega (arith, length-append p.rest (b ∷ [])))) refl

-- or makes the line too long
pub after_long : (p : Progress) (b : ℕ) → p.taken < MAX_INPUT → b == 10 ≡ false → length p.rest ≡ MAX_LINE → after p (b ∷ []) ≡ refused p.reading LineTooLong
after_long p b room other full = other_byte p b room other ∙ rw (lt-ltb MAX_LINE (length (p.rest ++ b ∷ [])) (omega (arith, length-append p.rest (b ∷ [])))) refl

-- no byte changes nothing
pub after_none : (p : Progress) → length p.rest ≤ MAX_LINE → p.taken ≤ MAX_INPUT → after p [] ≡ Ok p
unfolding after
after_none p short room =
    let few : nat_lt MAX_INPUT (p.taken + 0) ≡ false = le-ltb _ _ (omega arith) in
    let none : take {A = ℕ} (MAX_INPUT - p.taken) [] ≡ [] = take_all _ [] zero-le in
    let same : p.taken + 0 ≡ p.taken = omega arith in
    rw (none, few, same, le-ltb MAX_LINE (length p.rest) short) refl

-- ---- what the code made of a step

-- the byte past the limit makes the code fail
pub steps_full : (p : Progress) (b : ℕ) (e : ReadFault) → length p.rest ≤ MAX_LINE → p.taken ≡ MAX_INPUT → e ≡ Text (record { line = p.reading.line; kind = InputTooLong }) → Failed e p.reading.names (after p (b ∷ []))
steps_full p b e short full is = rw is (after_full p b short full, tt)

-- so does the byte by which the line is too long
pub steps_long : (p : Progress) (b : ℕ) (e : ReadFault) → p.taken < MAX_INPUT → b == 10 ≡ false → length p.rest ≡ MAX_LINE → e ≡ Text (record { line = p.reading.line; kind = LineTooLong }) → Failed e p.reading.names (after p (b ∷ []))
steps_long p b e room other full is = rw is (after_long p b room other full, tt)

-- a step that failed makes all after it fail
steps_line : (e : ReadFault) (names : NameLists) (x : Result Reading Refusal) (f : Reading → Result Progress Refusal) → Failed e names x → Failed e names (x >>= f)
steps_line (Text fault) names x f h = (rw h.0 refl, h.1)
steps_line OutOfMemory names x f h = tt

-- a line that failed
pub newline_failed : (p : Progress) (b : ℕ) (e : ReadFault) (names : NameLists) → p.taken < MAX_INPUT → b == 10 ≡ true → Failed e names (read_line p.reading p.rest) → Failed e names (after p (b ∷ []))
newline_failed p b e names room newline h = subst (Failed e names) (sym (after_newline p b room newline)) (steps_line e names _ _ h)

-- a line that was read
pub newline_read : (p : Progress) (b : ℕ) (r : Reading) → p.taken < MAX_INPUT → b == 10 ≡ true → read_line p.reading p.rest ≡ Ok r → after p (b ∷ []) ≡ Ok (record { reading = r; rest = []; taken = p.taken + 1 })
newline_read p b r room newline h = after_newline p b room newline ∙ rw h refl

-- the last line
pub last_line : (p : Progress) (names : NameLists) (r : Reading) (x : Result (Unit {0}) ReadFault) → length p.rest == 0 ≡ false → Steps x names r (read_line p.reading p.rest)
    → Steps x names (record { reading = r; rest = []; taken = p.taken }) (closed p)
unfolding closed
last_line p names r (Ok v) some h = rw (some, h) refl
last_line p names r (Err e) some h = rw some (steps_line e names _ _ h)

-- no last line
pub no_last_line : (p : Progress) → length p.rest == 0 ≡ true → closed p ≡ Ok p
unfolding closed
no_last_line p none = rw none refl

-- ---- a run of bytes

-- the bytes so far and one more
pub more : (p q r : Progress) (piece : List ℕ) (i : ℕ) → i < length piece → after p (take i piece) ≡ Ok q → after q (get_or piece i 0 ∷ []) ≡ Ok r → after p (take (i + 1) piece) ≡ Ok r
more p q r piece i within so_far next =
    ap (after p) (take_more piece i 0 within) ∙ after_append p (take i piece) (get_or piece i 0 ∷ []) ∙ rw so_far next

-- a byte that failed
pub failed_at : (p q : Progress) (e : ReadFault) (names : NameLists) (piece : List ℕ) (i : ℕ) → i < length piece → after p (take i piece) ≡ Ok q → Failed e names (after q (get_or piece i 0 ∷ [])) → Failed e names (after p piece)
failed_at p q (Text fault) names piece i within so_far next =
    let parts : piece ≡ take (i + 1) piece ++ drop (i + 1) piece = sym (take-append-drop (i + 1) piece) in
    let front : after p (take (i + 1) piece) ≡ Err (refusal_of names fault) = ap (after p) (take_more piece i 0 within) ∙ after_append p (take i piece) (get_or piece i 0 ∷ []) ∙ rw so_far next.0 in
    (ap (after p) parts ∙ after_append p (take (i + 1) piece) (drop (i + 1) piece) ∙ rw front refl, next.1)
failed_at p q OutOfMemory names piece i within so_far next = tt

-- what was read is within the limit
pub after_fits : (p q : Progress) (bytes : List ℕ) → after p bytes ≡ Ok q → p.taken + length bytes ≤ MAX_INPUT
unfolding after
after_fits p q bytes h = by (read_lines p.reading (cut_after p.rest (take (MAX_INPUT - p.taken) bytes)).lines) (nat_lt MAX_LINE (length (cut_after p.rest (take (MAX_INPUT - p.taken) bytes)).rest)) (nat_lt MAX_INPUT (p.taken + length bytes)) refl h
  where
    by : (x : Result Reading Refusal) (long many : Bool) → nat_lt MAX_INPUT (p.taken + length bytes) ≡ many
        → (x >>= λ s. cond long (refused s LineTooLong) (cond many (refused s InputTooLong) (Ok (record { reading = s; rest = (cut_after p.rest (take (MAX_INPUT - p.taken) bytes)).rest; taken = p.taken + length bytes })))) ≡ Ok q
        → p.taken + length bytes ≤ MAX_INPUT
    by x long false few e = ltb-false _ _ few
    by (Ok s) true true many e = cc
    by (Ok s) false true many e = cc
    by (Err f) long true many e = cc

-- a fault that is known stays
pub after_fault : (p : Progress) (front back : List ℕ) (f : Refusal) → after p front ≡ Err f → after p (front ++ back) ≡ Err f
after_fault p front back f h = after_append p front back ∙ rw h refl
